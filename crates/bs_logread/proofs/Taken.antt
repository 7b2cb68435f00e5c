-- What is read as a line is what that line spells, with each number in its range.
use Rattle.std.proofs.Common.{◌≡◌, ℕ, ◌-◌, ◌^◌, true, List, [], ◌∷◌, ◌++◌, Option, Some, None, codes, refl, sym, ap, subst, ◌∙◌, lit<}
use Rattle.std.specs.Fmt.{decimal, signed_decimal}
use Rattle.std.proofs.lemmas.Option.{same_Some}
use Rattle.std.proofs.lemmas.List.{append-nil}
use Rattle.bs_logtext.specs.Text.{kind_number}
use Rattle.bs_logread.specs.declared.lines.Line.{Line}
use Rattle.bs_logread.specs.declared.lines.Line.TheVariants as l
use Rattle.bs_logread.specs.Words.{◌>>=◌, behind, number_of, number_before, signed_of, signed_before}
use Rattle.bs_logread.specs.Line.{is_in_range}
use Rattle.bs_logread.specs.Spelled.{kind_of, counts_of, row_of, after_of, mail_of, emit_of, send_of, trap_of, wait_of, alone, either, line_of}
use Rattle.bs_logread.proofs.Body.{body, Says}
use Rattle.bs_logread.proofs.Fields.{bind_some, both, small_from, upto_from, number_of_takes, number_before_takes, signed_of_takes, signed_before_takes, kind_back, behind_parts}

pub row_takes : (text : List ℕ) (x : Line) → row_of text ≡ Some x → Says (codes "row ") text x
unfolding row_of
row_takes text x e =
    let s0 = bind_some (number_before 0 (2 ^ 32 - 1) text) (λ a. number_before 1 10000 a.1 >>= λ b. number_before 1 262144 b.1 >>= λ c. number_of 1 (2 ^ 32) c.1 >>= λ d. Some (l.Row (record { chare = a.0; stmt = b.0; depth = c.0; cost = d }))) x e in
    let t0 = number_before_takes 0 (2 ^ 32 - 1) text s0.0.0 s0.0.1 (lit< tt) s0.1 in
    let s1 = bind_some (number_before 1 10000 s0.0.1) (λ b. number_before 1 262144 b.1 >>= λ c. number_of 1 (2 ^ 32) c.1 >>= λ d. Some (l.Row (record { chare = s0.0.0; stmt = b.0; depth = c.0; cost = d }))) x s0.2 in
    let t1 = number_before_takes 1 10000 s0.0.1 s1.0.0 s1.0.1 (lit< tt) s1.1 in
    let s2 = bind_some (number_before 1 262144 s1.0.1) (λ c. number_of 1 (2 ^ 32) c.1 >>= λ d. Some (l.Row (record { chare = s0.0.0; stmt = s1.0.0; depth = c.0; cost = d }))) x s1.2 in
    let t2 = number_before_takes 1 262144 s1.0.1 s2.0.0 s2.0.1 (lit< tt) s2.1 in
    let s3 = bind_some (number_of 1 (2 ^ 32) s2.0.1) (λ d. Some (l.Row (record { chare = s0.0.0; stmt = s1.0.0; depth = s2.0.0; cost = d }))) x s2.2 in
    let t3 = number_of_takes 1 (2 ^ 32) s2.0.1 s3.0 (lit< tt) s3.1 in
    let y : Line = l.Row (record { chare = s0.0.0; stmt = s1.0.0; depth = s2.0.0; cost = s3.0 }) in
    let is : codes "row " ++ text ≡ body y = ap (λ (t : List ℕ). codes "row " ++ t) (t0.0 ∙ ap (λ (t : List ℕ). decimal s0.0.0 ++ 32 ∷ t) (t1.0 ∙ ap (λ (t : List ℕ). decimal s1.0.0 ++ 32 ∷ t) (t2.0 ∙ ap (λ (t : List ℕ). decimal s2.0.0 ++ 32 ∷ t) (t3.0)))) in
    subst (λ (z : Line). Says (codes "row ") text z) (same_Some y x s3.2) (record { is = is; range = both (small_from s0.0.0 t0.1) (both (t1.1) (both (t2.1) (t3.1))) })

pub after_takes : (text : List ℕ) (x : Line) → after_of text ≡ Some x → Says (codes "after ") text x
unfolding after_of
after_takes text x e =
    let s0 = bind_some (number_of 0 (2 ^ 32 - 1) text) (λ a. Some (l.After a)) x e in
    let t0 = number_of_takes 0 (2 ^ 32 - 1) text s0.0 (lit< tt) s0.1 in
    let y : Line = l.After s0.0 in
    let is : codes "after " ++ text ≡ body y = ap (λ (t : List ℕ). codes "after " ++ t) (t0.0) in
    subst (λ (z : Line). Says (codes "after ") text z) (same_Some y x s0.2) (record { is = is; range = small_from s0.0 t0.1 })

pub mail_takes : (text : List ℕ) (x : Line) → mail_of text ≡ Some x → Says (codes "mail ") text x
unfolding mail_of
mail_takes text x e =
    let s0 = bind_some (number_before 0 (2 ^ 32 - 1) text) (λ a. number_of 0 (2 ^ 32 - 1) a.1 >>= λ b. Some (l.Mail (record { row = a.0; index = b }))) x e in
    let t0 = number_before_takes 0 (2 ^ 32 - 1) text s0.0.0 s0.0.1 (lit< tt) s0.1 in
    let s1 = bind_some (number_of 0 (2 ^ 32 - 1) s0.0.1) (λ b. Some (l.Mail (record { row = s0.0.0; index = b }))) x s0.2 in
    let t1 = number_of_takes 0 (2 ^ 32 - 1) s0.0.1 s1.0 (lit< tt) s1.1 in
    let y : Line = l.Mail (record { row = s0.0.0; index = s1.0 }) in
    let is : codes "mail " ++ text ≡ body y = ap (λ (t : List ℕ). codes "mail " ++ t) (t0.0 ∙ ap (λ (t : List ℕ). decimal s0.0.0 ++ 32 ∷ t) (t1.0)) in
    subst (λ (z : Line). Says (codes "mail ") text z) (same_Some y x s1.2) (record { is = is; range = both (small_from s0.0.0 t0.1) (small_from s1.0 t1.1) })

pub emit_takes : (text : List ℕ) (x : Line) → emit_of text ≡ Some x → Says (codes "emit ") text x
unfolding emit_of
emit_takes text x e =
    let s0 = bind_some (signed_of text) (λ a. Some (l.Emit a)) x e in
    let t0 = signed_of_takes text s0.0 s0.1 in
    let y : Line = l.Emit s0.0 in
    let is : codes "emit " ++ text ≡ body y = ap (λ (t : List ℕ). codes "emit " ++ t) (t0.0) in
    subst (λ (z : Line). Says (codes "emit ") text z) (same_Some y x s0.2) (record { is = is; range = t0.1 })

pub send_takes : (text : List ℕ) (x : Line) → send_of text ≡ Some x → Says (codes "send ") text x
unfolding send_of
send_takes text x e =
    let s0 = bind_some (number_before 0 (2 ^ 32 - 1) text) (λ a. number_before 0 (2 ^ 32 - 1) a.1 >>= λ b. signed_before b.1 >>= λ c. number_before 0 (2 ^ 30) c.1 >>= λ d. number_of 1 (2 ^ 32) d.1 >>= λ e. Some (l.Send (record { to = a.0; key = record { entry = b.0; reference = c.0 }; bytes = d.0; offset = e }))) x e in
    let t0 = number_before_takes 0 (2 ^ 32 - 1) text s0.0.0 s0.0.1 (lit< tt) s0.1 in
    let s1 = bind_some (number_before 0 (2 ^ 32 - 1) s0.0.1) (λ b. signed_before b.1 >>= λ c. number_before 0 (2 ^ 30) c.1 >>= λ d. number_of 1 (2 ^ 32) d.1 >>= λ e. Some (l.Send (record { to = s0.0.0; key = record { entry = b.0; reference = c.0 }; bytes = d.0; offset = e }))) x s0.2 in
    let t1 = number_before_takes 0 (2 ^ 32 - 1) s0.0.1 s1.0.0 s1.0.1 (lit< tt) s1.1 in
    let s2 = bind_some (signed_before s1.0.1) (λ c. number_before 0 (2 ^ 30) c.1 >>= λ d. number_of 1 (2 ^ 32) d.1 >>= λ e. Some (l.Send (record { to = s0.0.0; key = record { entry = s1.0.0; reference = c.0 }; bytes = d.0; offset = e }))) x s1.2 in
    let t2 = signed_before_takes s1.0.1 s2.0.0 s2.0.1 s2.1 in
    let s3 = bind_some (number_before 0 (2 ^ 30) s2.0.1) (λ d. number_of 1 (2 ^ 32) d.1 >>= λ e. Some (l.Send (record { to = s0.0.0; key = record { entry = s1.0.0; reference = s2.0.0 }; bytes = d.0; offset = e }))) x s2.2 in
    let t3 = number_before_takes 0 (2 ^ 30) s2.0.1 s3.0.0 s3.0.1 (lit< tt) s3.1 in
    let s4 = bind_some (number_of 1 (2 ^ 32) s3.0.1) (λ e. Some (l.Send (record { to = s0.0.0; key = record { entry = s1.0.0; reference = s2.0.0 }; bytes = s3.0.0; offset = e }))) x s3.2 in
    let t4 = number_of_takes 1 (2 ^ 32) s3.0.1 s4.0 (lit< tt) s4.1 in
    let y : Line = l.Send (record { to = s0.0.0; key = record { entry = s1.0.0; reference = s2.0.0 }; bytes = s3.0.0; offset = s4.0 }) in
    let is : codes "send " ++ text ≡ body y = ap (λ (t : List ℕ). codes "send " ++ t) (t0.0 ∙ ap (λ (t : List ℕ). decimal s0.0.0 ++ 32 ∷ t) (t1.0 ∙ ap (λ (t : List ℕ). decimal s1.0.0 ++ 32 ∷ t) (t2.0 ∙ ap (λ (t : List ℕ). signed_decimal s2.0.0 ++ 32 ∷ t) (t3.0 ∙ ap (λ (t : List ℕ). decimal s3.0.0 ++ 32 ∷ t) (t4.0))))) in
    subst (λ (z : Line). Says (codes "send ") text z) (same_Some y x s4.2) (record { is = is; range = both (small_from s0.0.0 t0.1) (both (small_from s1.0.0 t1.1) (both (t2.1) (both (upto_from s3.0.0 t3.1) (t4.1)))) })

pub trap_takes : (text : List ℕ) (x : Line) → trap_of text ≡ Some x → Says (codes "trap ") text x
unfolding trap_of
trap_takes text x e =
    let s0 = bind_some (number_before 0 (2 ^ 32 - 1) text) (λ a. number_before 1 10000 a.1 >>= λ b. number_of 1 8 b.1 >>= λ c. Some (l.Trap (record { chare = a.0; stmt = b.0; kind = kind_of c }))) x e in
    let t0 = number_before_takes 0 (2 ^ 32 - 1) text s0.0.0 s0.0.1 (lit< tt) s0.1 in
    let s1 = bind_some (number_before 1 10000 s0.0.1) (λ b. number_of 1 8 b.1 >>= λ c. Some (l.Trap (record { chare = s0.0.0; stmt = b.0; kind = kind_of c }))) x s0.2 in
    let t1 = number_before_takes 1 10000 s0.0.1 s1.0.0 s1.0.1 (lit< tt) s1.1 in
    let s2 = bind_some (number_of 1 8 s1.0.1) (λ c. Some (l.Trap (record { chare = s0.0.0; stmt = s1.0.0; kind = kind_of c }))) x s1.2 in
    let t2 = number_of_takes 1 8 s1.0.1 s2.0 (lit< tt) s2.1 in
    let y : Line = l.Trap (record { chare = s0.0.0; stmt = s1.0.0; kind = kind_of s2.0 }) in
    let kind : decimal s2.0 ≡ decimal (kind_number (kind_of s2.0)) = ap decimal (kind_back s2.0 t2.1) in
    let is : codes "trap " ++ text ≡ body y = ap (λ (t : List ℕ). codes "trap " ++ t) (t0.0 ∙ ap (λ (t : List ℕ). decimal s0.0.0 ++ 32 ∷ t) (t1.0 ∙ ap (λ (t : List ℕ). decimal s1.0.0 ++ 32 ∷ t) (t2.0 ∙ kind))) in
    subst (λ (z : Line). Says (codes "trap ") text z) (same_Some y x s2.2) (record { is = is; range = both (small_from s0.0.0 t0.1) (t1.1) })

pub wait_takes : (text : List ℕ) (x : Line) → wait_of text ≡ Some x → Says (codes "wait ") text x
unfolding wait_of
wait_takes text x e =
    let s0 = bind_some (number_before 0 (2 ^ 32 - 1) text) (λ a. number_before 1 10000 a.1 >>= λ b. number_before 0 (2 ^ 32 - 1) b.1 >>= λ c. signed_of c.1 >>= λ d. Some (l.Wait (record { chare = a.0; stmt = b.0; key = record { entry = c.0; reference = d } }))) x e in
    let t0 = number_before_takes 0 (2 ^ 32 - 1) text s0.0.0 s0.0.1 (lit< tt) s0.1 in
    let s1 = bind_some (number_before 1 10000 s0.0.1) (λ b. number_before 0 (2 ^ 32 - 1) b.1 >>= λ c. signed_of c.1 >>= λ d. Some (l.Wait (record { chare = s0.0.0; stmt = b.0; key = record { entry = c.0; reference = d } }))) x s0.2 in
    let t1 = number_before_takes 1 10000 s0.0.1 s1.0.0 s1.0.1 (lit< tt) s1.1 in
    let s2 = bind_some (number_before 0 (2 ^ 32 - 1) s1.0.1) (λ c. signed_of c.1 >>= λ d. Some (l.Wait (record { chare = s0.0.0; stmt = s1.0.0; key = record { entry = c.0; reference = d } }))) x s1.2 in
    let t2 = number_before_takes 0 (2 ^ 32 - 1) s1.0.1 s2.0.0 s2.0.1 (lit< tt) s2.1 in
    let s3 = bind_some (signed_of s2.0.1) (λ d. Some (l.Wait (record { chare = s0.0.0; stmt = s1.0.0; key = record { entry = s2.0.0; reference = d } }))) x s2.2 in
    let t3 = signed_of_takes s2.0.1 s3.0 s3.1 in
    let y : Line = l.Wait (record { chare = s0.0.0; stmt = s1.0.0; key = record { entry = s2.0.0; reference = s3.0 } }) in
    let is : codes "wait " ++ text ≡ body y = ap (λ (t : List ℕ). codes "wait " ++ t) (t0.0 ∙ ap (λ (t : List ℕ). decimal s0.0.0 ++ 32 ∷ t) (t1.0 ∙ ap (λ (t : List ℕ). decimal s1.0.0 ++ 32 ∷ t) (t2.0 ∙ ap (λ (t : List ℕ). decimal s2.0.0 ++ 32 ∷ t) (t3.0)))) in
    subst (λ (z : Line). Says (codes "wait ") text z) (same_Some y x s3.2) (record { is = is; range = both (small_from s0.0.0 t0.1) (both (t1.1) (both (small_from s2.0.0 t2.1) (t3.1))) })

pub counts_takes : (text : List ℕ) (x : Line) → counts_of text ≡ Some x → Says (codes "chares ") text x
unfolding counts_of
counts_takes text x e =
    let s0 = bind_some (number_before 0 (2 ^ 32 - 1) text) (λ a. behind (codes "entries ") a.1 >>= λ t. number_before 0 (2 ^ 32 - 1) t >>= λ b. behind (codes "rows ") b.1 >>= λ u. number_of 0 (2 ^ 32 - 1) u >>= λ c. Some (l.Counts (record { chares = a.0; entries = b.0; rows = c }))) x e in
    let t0 = number_before_takes 0 (2 ^ 32 - 1) text s0.0.0 s0.0.1 (lit< tt) s0.1 in
    let w0 = bind_some (behind (codes "entries ") s0.0.1) (λ t. number_before 0 (2 ^ 32 - 1) t >>= λ b. behind (codes "rows ") b.1 >>= λ u. number_of 0 (2 ^ 32 - 1) u >>= λ c. Some (l.Counts (record { chares = s0.0.0; entries = b.0; rows = c }))) x s0.2 in
    let v0 = behind_parts (codes "entries ") s0.0.1 w0.0 w0.1 in
    let s1 = bind_some (number_before 0 (2 ^ 32 - 1) w0.0) (λ b. behind (codes "rows ") b.1 >>= λ u. number_of 0 (2 ^ 32 - 1) u >>= λ c. Some (l.Counts (record { chares = s0.0.0; entries = b.0; rows = c }))) x w0.2 in
    let t1 = number_before_takes 0 (2 ^ 32 - 1) w0.0 s1.0.0 s1.0.1 (lit< tt) s1.1 in
    let w1 = bind_some (behind (codes "rows ") s1.0.1) (λ u. number_of 0 (2 ^ 32 - 1) u >>= λ c. Some (l.Counts (record { chares = s0.0.0; entries = s1.0.0; rows = c }))) x s1.2 in
    let v1 = behind_parts (codes "rows ") s1.0.1 w1.0 w1.1 in
    let s2 = bind_some (number_of 0 (2 ^ 32 - 1) w1.0) (λ c. Some (l.Counts (record { chares = s0.0.0; entries = s1.0.0; rows = c }))) x w1.2 in
    let t2 = number_of_takes 0 (2 ^ 32 - 1) w1.0 s2.0 (lit< tt) s2.1 in
    let y : Line = l.Counts (record { chares = s0.0.0; entries = s1.0.0; rows = s2.0 }) in
    let is2 : s1.0.1 ≡ codes "rows " ++ decimal s2.0 = v1 ∙ ap (λ (t : List ℕ). codes "rows " ++ t) t2.0 in
    let is1 : s0.0.1 ≡ codes "entries " ++ (decimal s1.0.0 ++ 32 ∷ (codes "rows " ++ decimal s2.0)) = v0 ∙ ap (λ (t : List ℕ). codes "entries " ++ t) (t1.0 ∙ ap (λ (t : List ℕ). decimal s1.0.0 ++ 32 ∷ t) is2) in
    let is : codes "chares " ++ text ≡ body y = ap (λ (t : List ℕ). codes "chares " ++ t) (t0.0 ∙ ap (λ (t : List ℕ). decimal s0.0.0 ++ 32 ∷ t) is1) in
    subst (λ (z : Line). Says (codes "chares ") text z) (same_Some y x s2.2) (record { is = is; range = both (small_from s0.0.0 t0.1) (both (small_from s1.0.0 t1.1) (small_from s2.0 t2.1)) })

pub alone_says : (line : Line) (word text : List ℕ) (x : Line) → body line ≡ word → is_in_range line ≡ true → alone line (behind word text) ≡ Some x → (text ≡ body x) × (is_in_range x ≡ true)
alone_says line word text x is range e = by (behind word text) refl e
  where
    by : (o : Option (List ℕ)) → behind word text ≡ o → alone line o ≡ Some x → (text ≡ body x) × (is_in_range x ≡ true)
    by (Some []) b e =
        let same = same_Some line x e in
        (behind_parts word text [] b ∙ (append-nil word ∙ (sym is ∙ ap body same)), ap is_in_range (sym same) ∙ range)
    by (Some (c ∷ cs)) b e = absurd (cc)
    by None b e = absurd (cc)

abbrev Spells : List ℕ → Line → Type 0
Spells text x = (text ≡ body x) × (is_in_range x ≡ true)

-- one of the readings
pick : (word text : List ℕ) (f : List ℕ → Option Line) (next : Option Line) (x : Line) → ((rest : List ℕ) → f rest ≡ Some x → Says word rest x) → (next ≡ Some x → Spells text x) → either (behind word text) f next ≡ Some x → Spells text x
pick word text f next x says later e = by (behind word text) refl e
  where
    by : (o : Option (List ℕ)) → behind word text ≡ o → either o f next ≡ Some x → Spells text x
    by (Some rest) b e = let s = says rest e in (behind_parts word text rest b ∙ s.is, s.range)
    by None b e = later e

version_says : (rest : List ℕ) (x : Line) → alone l.Version (Some rest) ≡ Some x → Says (codes "bslog 1") rest x
version_says [] x e = let same = same_Some l.Version x e in record { is = ap body same; range = ap is_in_range (sym same) }
version_says (b ∷ bs) x e = absurd (cc)

pub line_takes : (text : List ℕ) (x : Line) → line_of text ≡ Some x → Spells text x
unfolding line_of
line_takes text x e =
    pick (codes "row ") text row_of _ x (λ rest. row_takes rest x)
    (pick (codes "after ") text after_of _ x (λ rest. after_takes rest x)
    (pick (codes "mail ") text mail_of _ x (λ rest. mail_takes rest x)
    (pick (codes "emit ") text emit_of _ x (λ rest. emit_takes rest x)
    (pick (codes "send ") text send_of _ x (λ rest. send_takes rest x)
    (pick (codes "trap ") text trap_of _ x (λ rest. trap_takes rest x)
    (pick (codes "wait ") text wait_of _ x (λ rest. wait_takes rest x)
    (pick (codes "chares ") text counts_of _ x (λ rest. counts_takes rest x)
    (pick (codes "bslog 1") text (λ rest. alone l.Version (Some rest)) _ x (λ rest. version_says rest x)
    (alone_says l.End (codes "end") text x refl refl))))))))) e
