-- A draft shows the lines that it took.
use Rattle.std.proofs.Common.{◌≡◌, ◌≤◌, ℕ, ℤ, zero, suc, ◌==◌, true, false, if◌then◌else◌, List, [], ◌∷◌, ◌++◌, map, length, length-append, Option, Some, refl, sym, ap, ◌∙◌, append_assoc, arith}
use Rattle.std.specs.List.{flat_map}
use Rattle.std.specs.Option.{option_map}
use Rattle.std.proofs.lemmas.List.{append-nil, map-append}
use Rattle.std.proofs.lemmas.List.Concat.{flat_map-append, flat_map-cons}
use Rattle.std.proofs.lemmas.Bool.Decides.{nat_tests}
use Rattle.std.proofs.lemmas.Option.{same_Some}
use Rattle.bs_log.specs.declared.history.Sent.{Sent}
use Rattle.bs_log.specs.declared.log.MailRef.{MailRef}
use Rattle.bs_log.specs.declared.log.Row.{Row}
use Rattle.bs_log.specs.declared.log.TrapRow.{TrapRow}
use Rattle.bs_log.specs.declared.log.WaitRow.{WaitRow}
use Rattle.bs_logread.specs.declared.draft.Draft.{Draft}
use Rattle.bs_logread.specs.declared.lines.Counts.{Counts}
use Rattle.bs_logread.specs.declared.lines.Head.{Head}
use Rattle.bs_logread.specs.declared.lines.Line.{Line}
use Rattle.bs_logread.specs.declared.lines.Line.TheVariants as l
use Rattle.bs_logread.specs.declared.order.Progress.{Progress}
use Rattle.bs_logread.specs.Line.{bare, is_in_range}
use Rattle.bs_logread.specs.Lines.{head_of, row_parts, log_lines}
use Rattle.bs_logread.specs.Order.{start, with_line, after, may_follow, rows_allow, has_place, may_stand, is_within, fits}
use Rattle.bs_logread.specs.Draft.{last_row, with_after, in_row, taken, empty, log_of}
use Rattle.bs_logread.proofs.Fields.{parted, bounds}

abbrev pub rows_of : Draft → List Row
rows_of d = d.rows ++ last_row d.current

-- the lines behind the first two
abbrev parts : List Row → List TrapRow → List WaitRow → List Line
parts rows traps waits = flat_map row_parts rows ++ (map l.Trap traps ++ map l.Wait waits)

-- the last line, behind which the kind is 10
abbrev last_line : ℕ → List Line
last_line last = if last == 10 then l.End ∷ [] else []

-- with the first two, as far as they are there
abbrev opened : ℕ → Line → List Line → List Line
opened zero counts more = []
opened (suc zero) counts more = l.Version ∷ []
opened (suc (suc n)) counts more = l.Version ∷ counts ∷ more

abbrev named_counts : Draft → ℕ → Line
named_counts d named = l.Counts (record { chares = d.chares; entries = d.entries; rows = named })

-- the lines that a draft took
abbrev pub drafted : Progress → Draft → List Line
drafted p d = opened p.last (named_counts d p.named) (parts (rows_of d) d.traps d.waits ++ last_line p.last)

-- what a draft holds behind a line of some kind
pub record Sound (p : Progress) (d : Draft) : Type 0 where
  pub rows : p.rows ≡ length (rows_of d)
  pub fresh : p.last ≤ 2 → rows_of d ≡ []
  pub current : 3 ≤ p.last → p.last ≤ 7 → (r : Row) × (d.current ≡ Some r)
  pub mail : p.last ≤ 4 → (r : Row) → d.current ≡ Some r → r.mail ≡ []
  pub emits : p.last ≤ 5 → (r : Row) → d.current ≡ Some r → r.emits ≡ []
  pub sends : p.last ≤ 6 → (r : Row) → d.current ≡ Some r → r.sends ≡ []
  pub traps : p.last ≤ 7 → d.traps ≡ []
  pub waits : p.last ≤ 8 → d.waits ≡ []
  pub named : p.last ≡ 10 → p.rows ≡ p.named

pub record Step (p : Progress) (d : Draft) (x : Line) : Type 0 where
  pub sound : Sound (after p x) (taken d x)
  pub lines : drafted (after p x) (taken d x) ≡ drafted p d ++ x ∷ []

-- ---- lists

behind_two : (n : ℕ) (c : Line) (more : List Line) → 2 ≤ n → opened n c more ≡ l.Version ∷ c ∷ more
behind_two zero c more h = absurd (omega (arith, h))
behind_two (suc zero) c more h = absurd (omega (arith, h))
behind_two (suc (suc n)) c more h = refl

not_last : (n : ℕ) → n ≤ 9 → last_line n ≡ []
not_last n h = let other : (n == 10) ≡ false = grind (arith, nat_tests) in rw other refl

-- one more line behind the first two
grows : (p : Progress) (d e : Draft) (n : ℕ) (x : Line) → 2 ≤ p.last → p.last ≤ 9 → 2 ≤ n → e.chares ≡ d.chares → e.entries ≡ d.entries
    → parts (rows_of e) e.traps e.waits ++ last_line n ≡ parts (rows_of d) d.traps d.waits ++ x ∷ []
    → opened n (named_counts e p.named) (parts (rows_of e) e.traps e.waits ++ last_line n) ≡ drafted p d ++ x ∷ []
grows p d e n x low high two same_chares same_entries more =
    let old : drafted p d ≡ l.Version ∷ named_counts d p.named ∷ parts (rows_of d) d.traps d.waits =
    behind_two p.last (named_counts d p.named) _ low ∙ ap (λ (t : List Line). l.Version ∷ named_counts d p.named ∷ t) (rw (not_last p.last high) (append-nil (parts (rows_of d) d.traps d.waits))) in
    let counts : named_counts e p.named ≡ named_counts d p.named = rw (same_chares, same_entries) refl in
    let new : opened n (named_counts e p.named) (parts (rows_of e) e.traps e.waits ++ last_line n) ≡ l.Version ∷ named_counts e p.named ∷ (parts (rows_of e) e.traps e.waits ++ last_line n) = behind_two n (named_counts e p.named) _ two in
    rw (new, old, more, counts) refl

-- ---- rows

after_shape : (a y : List Line) → (a ++ y) ++ [] ≡ (a ++ []) ++ y
after_shape a y = simp (append-nil, append_assoc)

mail_shape : (a b y : List Line) → a ++ ((b ++ y) ++ []) ≡ (a ++ (b ++ [])) ++ y
mail_shape a b y = simp (append-nil, append_assoc)

emit_shape : (a b c y : List Line) → a ++ (b ++ ((c ++ y) ++ [])) ≡ (a ++ (b ++ (c ++ []))) ++ y
emit_shape a b c y = simp (append-nil, append_assoc)

send_shape : (a b c d y : List Line) → a ++ (b ++ (c ++ (d ++ y))) ≡ (a ++ (b ++ (c ++ d))) ++ y
send_shape a b c d y = simp append_assoc

after_grows : (r : Row) (n : ℕ) → r.mail ≡ [] → r.emits ≡ [] → r.sends ≡ [] → row_parts (with_after r (l.After n)) ≡ row_parts r ++ l.After n ∷ []
after_grows r n m e s =
    let a : map l.After (r.after ++ n ∷ []) ≡ map l.After r.after ++ l.After n ∷ [] = map-append l.After r.after (n ∷ []) in
    rw (m, e, s) (ap (λ (t : List Line). l.Row (head_of r) ∷ t) (ap (λ (t : List Line). t ++ []) a ∙ after_shape (map l.After r.after) (l.After n ∷ [])))

mail_grows : (r : Row) (m : MailRef) → r.emits ≡ [] → r.sends ≡ [] → row_parts (with_after r (l.Mail m)) ≡ row_parts r ++ l.Mail m ∷ []
mail_grows r m e s =
    let a : map l.Mail (r.mail ++ m ∷ []) ≡ map l.Mail r.mail ++ l.Mail m ∷ [] = map-append l.Mail r.mail (m ∷ []) in
    rw (e, s) (ap (λ (t : List Line). l.Row (head_of r) ∷ t) (ap (λ (t : List Line). map l.After r.after ++ (t ++ [])) a ∙ mail_shape (map l.After r.after) (map l.Mail r.mail) (l.Mail m ∷ [])))

emit_grows : (r : Row) (v : ℤ) → r.sends ≡ [] → row_parts (with_after r (l.Emit v)) ≡ row_parts r ++ l.Emit v ∷ []
emit_grows r v s =
    let a : map l.Emit (r.emits ++ v ∷ []) ≡ map l.Emit r.emits ++ l.Emit v ∷ [] = map-append l.Emit r.emits (v ∷ []) in
    rw s (ap (λ (t : List Line). l.Row (head_of r) ∷ t) (ap (λ (t : List Line). map l.After r.after ++ (map l.Mail r.mail ++ (t ++ []))) a ∙ emit_shape (map l.After r.after) (map l.Mail r.mail) (map l.Emit r.emits) (l.Emit v ∷ [])))

send_grows : (r : Row) (s : Sent) → row_parts (with_after r (l.Send s)) ≡ row_parts r ++ l.Send s ∷ []
send_grows r s =
    let a : map l.Send (r.sends ++ s ∷ []) ≡ map l.Send r.sends ++ l.Send s ∷ [] = map-append l.Send r.sends (s ∷ []) in
    ap (λ (t : List Line). l.Row (head_of r) ∷ t) (ap (λ (t : List Line). map l.After r.after ++ (map l.Mail r.mail ++ (map l.Emit r.emits ++ t))) a ∙ send_shape (map l.After r.after) (map l.Mail r.mail) (map l.Emit r.emits) (map l.Send r.sends) (l.Send s ∷ []))

-- a line of the last row
last_grows : (rows : List Row) (cur : Option Row) (traps : List TrapRow) (waits : List WaitRow) (r new : Row) (x : Line) → cur ≡ Some r → traps ≡ [] → waits ≡ [] → row_parts new ≡ row_parts r ++ x ∷ []
    → parts (rows ++ new ∷ []) traps waits ++ [] ≡ parts (rows ++ last_row cur) traps waits ++ x ∷ []
last_grows rows cur traps waits r new x c t w g =
    let a = flat_map-append row_parts rows (new ∷ []) in
    let b = flat_map-append row_parts rows (r ∷ []) in
    rw (c, t, w, a, b) (simp (flat_map-cons, append-nil, append_assoc, g))

-- a row behind the last one
rows_grow : (rows : List Row) (traps : List TrapRow) (waits : List WaitRow) (h : Head) → traps ≡ [] → waits ≡ [] → parts (rows ++ bare h ∷ []) traps waits ++ [] ≡ parts rows traps waits ++ l.Row h ∷ []
rows_grow rows traps waits h t w =
    let a = flat_map-append row_parts rows (bare h ∷ []) in
    rw (t, w, a) (simp (flat_map-cons, append-nil))

same_count : (rows : List Row) (cur : Option Row) (r new : Row) → cur ≡ Some r → length (rows ++ last_row cur) ≡ length (rows ++ new ∷ [])
same_count rows cur r new c = rw c (let a = length-append rows (r ∷ []) in let b = length-append rows (new ∷ []) in omega (arith, a, b))

-- ---- what a draft holds

place_parts : (p : Progress) (x : Line) → fits p x ≡ true → (may_follow p.last x ≡ true) × (rows_allow p x ≡ true)
unfolding has_place
place_parts p x e = parted (may_follow p.last x) (rows_allow p x) (parted (is_in_range x) (has_place p x) (parted (may_stand p x) (is_within p x) e).0).1

in_row_sound : (p : Progress) (d : Draft) (x : Line) (n : ℕ) (r : Row) → Sound p d → p.last ≤ n → 3 ≤ n → n ≤ 7 → d.current ≡ Some r
    → (n ≤ 4 → (with_after r x).mail ≡ []) → (n ≤ 5 → (with_after r x).emits ≡ []) → (n ≤ 6 → (with_after r x).sends ≡ []) → Sound (with_line n p) (in_row d x)
in_row_sound p d x n r s up low high e m v t =
    let new : option_map (λ r. with_after r x) d.current ≡ Some (with_after r x) = ap (option_map (λ r. with_after r x)) e in
    let is : (q : Row) → option_map (λ r. with_after r x) d.current ≡ Some q → with_after r x ≡ q = λ q h. same_Some (with_after r x) q (sym new ∙ h) in
    record {
      rows = s.rows ∙ (same_count d.rows d.current r (with_after r x) e ∙ ap (λ (c : Option Row). length (d.rows ++ last_row c)) (sym new));
      fresh = λ h. absurd (omega (arith, h, low));
      current = λ a b. (with_after r x, new);
      mail = λ h q i. ap (λ (y : Row). y.mail) (sym (is q i)) ∙ m h;
      emits = λ h q i. ap (λ (y : Row). y.emits) (sym (is q i)) ∙ v h;
      sends = λ h q i. ap (λ (y : Row). y.sends) (sym (is q i)) ∙ t h;
      traps = λ h. s.traps (omega (arith, up, high));
      waits = λ h. s.waits (omega (arith, up, high));
      named = λ h. absurd (omega (arith, h, high));
    }

in_row_lines : (p : Progress) (d : Draft) (x : Line) (n : ℕ) (r : Row) → Sound p d → 2 ≤ p.last → p.last ≤ 7 → 2 ≤ n → last_line n ≡ [] → d.current ≡ Some r → row_parts (with_after r x) ≡ row_parts r ++ x ∷ []
    → drafted (with_line n p) (in_row d x) ≡ drafted p d ++ x ∷ []
in_row_lines p d x n r s low high two none e g =
    let new : option_map (λ r. with_after r x) d.current ≡ Some (with_after r x) = ap (option_map (λ r. with_after r x)) e in
    grows p d (in_row d x) n x low (omega (arith, high)) two refl refl
    (rw (none, new) (last_grows d.rows d.current d.traps d.waits r (with_after r x) x e (s.traps high) (s.waits (omega (arith, high))) g))

version_step : (p : Progress) (d : Draft) → Sound p d → fits p l.Version ≡ true → Step p d l.Version
version_step p d s f =
    let w = (place_parts p l.Version f).0 in
    let z : p.last ≡ 0 = grind (arith, nat_tests, w) in
    record {
      sound = record {
        rows = s.rows;
        fresh = λ h. s.fresh (omega (arith, z));
        current = λ a b. absurd (omega (arith, a));
        mail = λ h. s.mail (omega (arith, z));
        emits = λ h. s.emits (omega (arith, z));
        sends = λ h. s.sends (omega (arith, z));
        traps = λ h. s.traps (omega (arith, z));
        waits = λ h. s.waits (omega (arith, z));
        named = λ h. absurd (omega (arith, h));
      };
      lines = rw z refl;
    }

counts_step : (p : Progress) (d : Draft) (c : Counts) → Sound p d → fits p (l.Counts c) ≡ true → Step p d (l.Counts c)
counts_step p d c s f =
    let w = (place_parts p (l.Counts c) f).0 in
    let z : p.last ≡ 1 = grind (arith, nat_tests, w) in
    record {
      sound = record {
        rows = s.rows;
        fresh = λ h. s.fresh (omega (arith, z));
        current = λ a b. absurd (omega (arith, a));
        mail = λ h. s.mail (omega (arith, z));
        emits = λ h. s.emits (omega (arith, z));
        sends = λ h. s.sends (omega (arith, z));
        traps = λ h. s.traps (omega (arith, z));
        waits = λ h. s.waits (omega (arith, z));
        named = λ h. absurd (omega (arith, h));
      };
      lines = let none = s.fresh (omega (arith, z)) in let t = s.traps (omega (arith, z)) in let q = s.waits (omega (arith, z)) in rw (z, none, t, q) refl;
    }

row_step : (p : Progress) (d : Draft) (h : Head) → Sound p d → fits p (l.Row h) ≡ true → Step p d (l.Row h)
row_step p d h s f =
    let b = bounds 2 7 p.last (place_parts p (l.Row h) f).0 in
    let t = s.traps b.1 in
    let w = s.waits (omega (arith, b.1)) in
    record {
      sound = record {
        rows = let a = length-append (rows_of d) (bare h ∷ []) in let r = s.rows in omega (arith, a, r);
        fresh = λ i. absurd (omega (arith, i));
        current = λ i j. (bare h, refl);
        mail = λ i q e. ap (λ (y : Row). y.mail) (sym (same_Some (bare h) q e));
        emits = λ i q e. ap (λ (y : Row). y.emits) (sym (same_Some (bare h) q e));
        sends = λ i q e. ap (λ (y : Row). y.sends) (sym (same_Some (bare h) q e));
        traps = λ i. t;
        waits = λ i. w;
        named = λ i. absurd (omega (arith, i));
      };
      lines = grows p d (taken d (l.Row h)) 3 (l.Row h) b.0 (omega (arith, b.1)) (omega arith) refl refl (rows_grow (rows_of d) d.traps d.waits h t w);
    }

after_step : (p : Progress) (d : Draft) (n : ℕ) → Sound p d → fits p (l.After n) ≡ true → Step p d (l.After n)
after_step p d n s f =
    let b = bounds 3 4 p.last (place_parts p (l.After n) f).0 in
    let c = s.current b.0 (omega (arith, b.1)) in
    let m = s.mail b.1 c.0 c.1 in
    let v = s.emits (omega (arith, b.1)) c.0 c.1 in
    let t = s.sends (omega (arith, b.1)) c.0 c.1 in
    record {
      sound = in_row_sound p d (l.After n) 4 c.0 s b.1 (omega arith) (omega arith) c.1 (λ i. m) (λ i. v) (λ i. t);
      lines = in_row_lines p d (l.After n) 4 c.0 s (omega (arith, b.0)) (omega (arith, b.1)) (omega arith) refl c.1 (after_grows c.0 n m v t);
    }

mail_step : (p : Progress) (d : Draft) (m : MailRef) → Sound p d → fits p (l.Mail m) ≡ true → Step p d (l.Mail m)
mail_step p d m s f =
    let b = bounds 3 5 p.last (place_parts p (l.Mail m) f).0 in
    let c = s.current b.0 (omega (arith, b.1)) in
    let v = s.emits b.1 c.0 c.1 in
    let t = s.sends (omega (arith, b.1)) c.0 c.1 in
    record {
      sound = in_row_sound p d (l.Mail m) 5 c.0 s b.1 (omega arith) (omega arith) c.1 (λ i. absurd (omega (arith, i))) (λ i. v) (λ i. t);
      lines = in_row_lines p d (l.Mail m) 5 c.0 s (omega (arith, b.0)) (omega (arith, b.1)) (omega arith) refl c.1 (mail_grows c.0 m v t);
    }

emit_step : (p : Progress) (d : Draft) (z : ℤ) → Sound p d → fits p (l.Emit z) ≡ true → Step p d (l.Emit z)
emit_step p d z s f =
    let b = bounds 3 6 p.last (place_parts p (l.Emit z) f).0 in
    let c = s.current b.0 (omega (arith, b.1)) in
    let t = s.sends b.1 c.0 c.1 in
    record {
      sound = in_row_sound p d (l.Emit z) 6 c.0 s b.1 (omega arith) (omega arith) c.1 (λ i. absurd (omega (arith, i))) (λ i. absurd (omega (arith, i))) (λ i. t);
      lines = in_row_lines p d (l.Emit z) 6 c.0 s (omega (arith, b.0)) (omega (arith, b.1)) (omega arith) refl c.1 (emit_grows c.0 z t);
    }

send_step : (p : Progress) (d : Draft) (x : Sent) → Sound p d → fits p (l.Send x) ≡ true → Step p d (l.Send x)
send_step p d x s f =
    let b = bounds 3 7 p.last (place_parts p (l.Send x) f).0 in
    let c = s.current b.0 b.1 in
    record {
      sound = in_row_sound p d (l.Send x) 7 c.0 s b.1 (omega arith) (omega arith) c.1 (λ i. absurd (omega (arith, i))) (λ i. absurd (omega (arith, i))) (λ i. absurd (omega (arith, i)));
      lines = in_row_lines p d (l.Send x) 7 c.0 s (omega (arith, b.0)) b.1 (omega arith) refl c.1 (send_grows c.0 x);
    }

trap_step : (p : Progress) (d : Draft) (t : TrapRow) → Sound p d → fits p (l.Trap t) ≡ true → Step p d (l.Trap t)
trap_step p d t s f =
    let b = bounds 2 8 p.last (place_parts p (l.Trap t) f).0 in
    let w = s.waits b.1 in
    record {
      sound = record {
        rows = s.rows;
        fresh = λ i. absurd (omega (arith, i));
        current = λ i j. absurd (omega (arith, j));
        mail = λ i. absurd (omega (arith, i));
        emits = λ i. absurd (omega (arith, i));
        sends = λ i. absurd (omega (arith, i));
        traps = λ i. absurd (omega (arith, i));
        waits = λ i. w;
        named = λ i. absurd (omega (arith, i));
      };
      lines = grows p d (taken d (l.Trap t)) 8 (l.Trap t) b.0 (omega (arith, b.1)) (omega arith) refl refl (rw w (simp (map-append, append-nil, append_assoc)));
    }

wait_step : (p : Progress) (d : Draft) (t : WaitRow) → Sound p d → fits p (l.Wait t) ≡ true → Step p d (l.Wait t)
wait_step p d t s f =
    let b = bounds 2 9 p.last (place_parts p (l.Wait t) f).0 in
    record {
      sound = record {
        rows = s.rows;
        fresh = λ i. absurd (omega (arith, i));
        current = λ i j. absurd (omega (arith, j));
        mail = λ i. absurd (omega (arith, i));
        emits = λ i. absurd (omega (arith, i));
        sends = λ i. absurd (omega (arith, i));
        traps = λ i. absurd (omega (arith, i));
        waits = λ i. absurd (omega (arith, i));
        named = λ i. absurd (omega (arith, i));
      };
      lines = grows p d (taken d (l.Wait t)) 9 (l.Wait t) b.0 b.1 (omega arith) refl refl (simp (map-append, append-nil, append_assoc));
    }

end_step : (p : Progress) (d : Draft) → Sound p d → fits p l.End ≡ true → Step p d l.End
end_step p d s f =
    let q = place_parts p l.End f in
    let b = bounds 2 9 p.last q.0 in
    let r = q.1 in
    record {
      sound = record {
        rows = s.rows;
        fresh = λ i. absurd (omega (arith, i));
        current = λ i j. absurd (omega (arith, j));
        mail = λ i. absurd (omega (arith, i));
        emits = λ i. absurd (omega (arith, i));
        sends = λ i. absurd (omega (arith, i));
        traps = λ i. absurd (omega (arith, i));
        waits = λ i. absurd (omega (arith, i));
        named = λ i. grind (arith, nat_tests, r);
      };
      lines = grows p d d 10 l.End b.0 b.1 (omega arith) refl refl refl;
    }

pub step : (p : Progress) (d : Draft) (x : Line) → Sound p d → fits p x ≡ true → Step p d x
step p d l.Version s f = version_step p d s f
step p d (l.Counts c) s f = counts_step p d c s f
step p d (l.Row h) s f = row_step p d h s f
step p d (l.After n) s f = after_step p d n s f
step p d (l.Mail m) s f = mail_step p d m s f
step p d (l.Emit z) s f = emit_step p d z s f
step p d (l.Send x) s f = send_step p d x s f
step p d (l.Trap t) s f = trap_step p d t s f
step p d (l.Wait t) s f = wait_step p d t s f
step p d l.End s f = end_step p d s f

-- ---- the whole log

pub nothing : Sound start empty
nothing = record {
  rows = refl;
  fresh = λ h. refl;
  current = λ a b. absurd (omega (arith, a));
  mail = λ h r e. absurd (cc);
  emits = λ h r e. absurd (cc);
  sends = λ h r e. absurd (cc);
  traps = λ h. refl;
  waits = λ h. refl;
  named = λ h. absurd (omega (arith, h));
}

pub whole : (p : Progress) (d : Draft) → Sound p d → p.last ≡ 10 → drafted p d ≡ log_lines (log_of d)
unfolding log_lines
whole p d s e =
    let n = sym (s.named e) ∙ s.rows in
    rw (e, n) (simp append_assoc)
