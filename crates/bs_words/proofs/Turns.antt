-- One word of a plain list: what the reading and the walk make of it stay together.
use Rattle.std.proofs.Common.{◌≡◌, ◌∙◌, ◌≤◌, ◌+◌, ◌==◌, ◌||◌, ℕ, Bool, cond, true, false, not, refl, sym, ap, subst, arith, List, [], ◌∷◌, ◌++◌, length, codes, Option, Some, None, is_some, inl, inr, ◌⊎◌, true≢false}
use Rattle.std.specs.Option.{option_map}
use Rattle.std.specs.Str.{bytes_eq}
use Rattle.std.proofs.lemmas.List.{length-append}
use Rattle.std.proofs.lemmas.Bool.{cases_Bool}
use Rattle.std.proofs.lemmas.Option.{none-some, same_Some}
use Rattle.std.proofs.lemmas.Slice.Eq.{bytes_eq-Decides}
use Rattle.clap.specs.Lexer.{usize_max}
use Rattle.clap.specs.Walk.{Text, Held, Walk, has_row, idle, option, positional, walked, value}
use Rattle.clap.specs.Takes.{turn_passes, step_passes, settle_passes}
use Rattle.bs_words.specs.Plain.{Read, setting_of, is_empty, step, value_of, flag_of, stands, with_flag, flagged, dashed, with_value, begun, named, by_waits}
use Rattle.bs_words.specs.declared.flag.Flag.{Flag}
use Rattle.bs_words.specs.declared.flag.Flag.TheVariants.{Spans}
use Rattle.bs_words.specs.declared.setting.Setting.{Setting}
use Rattle.bs_words.specs.declared.setting.Setting.TheVariants.{Limit, Workers, Waves, Journal}
use Rattle.bs_words.proofs.Uses.{Use, lookup, lookup_last, has_none}
use Rattle.bs_words.proofs.Walks.{At, free, flag_name, flag_word, flag_use, flag_held, flag_walked, flag_turn, held_with, set_row, one, many, waits, Id, setting, command, name_of, id_of, many_id, word_of, uses_of, held_of, waiting_of, walk_at, walk_with, IsNew, IsValued, growing, IsPlainWait, rules, shape, settle_is, settle_ok, plain_walked, plain_turn, to_command, to_names, to_more, option_walked, option_turn, waits_after, value_walked, value_turn}

abbrev pub expect : Id → Read → Option (List Text)
expect (setting o) r = option_map (λ v. v ∷ []) (value_of o r)
expect command r = option_map (λ v. v ∷ []) r.command

abbrev pub expect_flag : Bool → Option (List Text)
expect_flag true = Some (codes "true" ∷ [])
expect_flag false = None

abbrev pub some_names : List Text → Option (List Text)
some_names [] = None
some_names (n ∷ ns) = Some (n ∷ ns)

abbrev pub place_of : Option Text → ℕ
place_of None = 1
place_of (Some c) = 2

abbrev pub Fits : Read → At → Type 0
Fits r (free us) = (r.waits ≡ None) × (r.closed ≡ false → r.names ≡ [])
Fits r (one us i v) = (r.waits ≡ None) × (r.closed ≡ false → r.names ≡ [])
Fits r (many us v vs) = (r.waits ≡ None) × (r.names ≡ v ∷ vs)
Fits r (waits us o) = (r.waits ≡ Some o) × (r.closed ≡ false → r.names ≡ [])

pub record Good (r : Read) (s : At) : Type 0 where
  pub seen : (i : Id) → lookup (id_of i) (uses_of s) ≡ expect i r
  pub flags : (f : Flag) → lookup (flag_name f) (uses_of s) ≡ expect_flag (stands f r)
  pub names : lookup many_id (uses_of s) ≡ some_names r.names
  pub new : IsNew s
  pub fits : Fits r s
  pub ordered : r.command ≡ None → r.names ≡ []

pub record Turned (r : Read) (s : At) (w : Text) (next : Read) : Type 0 where
  pub to : At
  pub good : Good next to
  pub grows : growing to ≤ growing s + 1
  pub walk : walked rules [] (walk_at s (place_of r.command)) w ≡ walk_at to (place_of next.command)
  pub passes : turn_passes shape [] (walk_at s (place_of r.command)) w ≡ true

-- ---- a value

with_given : (o : Setting) (i : Id) (w : Text) (r : Read) → cond (bytes_eq (name_of o) (id_of i)) (Some (w ∷ [])) (expect i r) ≡ expect i (with_value o w r)
with_given Limit (setting Limit) w r = refl
with_given Limit (setting Workers) w r = refl
with_given Limit (setting Waves) w r = refl
with_given Limit (setting Journal) w r = refl
with_given Limit command w r = refl
with_given Workers (setting Limit) w r = refl
with_given Workers (setting Workers) w r = refl
with_given Workers (setting Waves) w r = refl
with_given Workers (setting Journal) w r = refl
with_given Workers command w r = refl
with_given Waves (setting Limit) w r = refl
with_given Waves (setting Workers) w r = refl
with_given Waves (setting Waves) w r = refl
with_given Waves (setting Journal) w r = refl
with_given Waves command w r = refl
with_given Journal (setting Limit) w r = refl
with_given Journal (setting Workers) w r = refl
with_given Journal (setting Waves) w r = refl
with_given Journal (setting Journal) w r = refl
with_given Journal command w r = refl

not_many : (o : Setting) (w : Text) (found : Option (List Text)) → cond (bytes_eq (name_of o) many_id) (Some (w ∷ [])) found ≡ found
not_many Limit w f = refl
not_many Workers w f = refl
not_many Waves w f = refl
not_many Journal w f = refl

not_flag : (o : Setting) (f : Flag) (ws : List Text) (found : Option (List Text)) → cond (bytes_eq (name_of o) (flag_name f)) (Some ws) found ≡ found
not_flag Limit Spans ws found = refl
not_flag Workers Spans ws found = refl
not_flag Waves Spans ws found = refl
not_flag Journal Spans ws found = refl

-- what a value leaves
keeps : (o : Setting) (w : Text) (r : Read) → (with_value o w r).command ≡ r.command
keeps Limit w r = refl
keeps Workers w r = refl
keeps Waves w r = refl
keeps Journal w r = refl

keeps_names : (o : Setting) (w : Text) (r : Read) → (with_value o w r).names ≡ r.names
keeps_names Limit w r = refl
keeps_names Workers w r = refl
keeps_names Waves w r = refl
keeps_names Journal w r = refl

keeps_flags : (o : Setting) (f : Flag) (w : Text) (r : Read) → stands f (with_value o w r) ≡ stands f r
keeps_flags Limit Spans w r = refl
keeps_flags Workers Spans w r = refl
keeps_flags Waves Spans w r = refl
keeps_flags Journal Spans w r = refl

keeps_closed : (o : Setting) (w : Text) (r : Read) → (with_value o w r).closed ≡ r.closed
keeps_closed Limit w r = refl
keeps_closed Workers w r = refl
keeps_closed Waves w r = refl
keeps_closed Journal w r = refl

clears : (o : Setting) (w : Text) (r : Read) → (with_value o w r).waits ≡ None
clears Limit w r = refl
clears Workers w r = refl
clears Waves w r = refl
clears Journal w r = refl

value_turned : (r : Read) (us : List Use) (o : Setting) (b : ℕ) (bs : Text) → Good r (waits us o) → (b == 45) ≡ false
    → Turned r (waits us o) (b ∷ bs) (with_value o (b ∷ bs) r)
value_turned r us o b bs g e = record {
  to = one us (setting o) (b ∷ bs);
  good = record {
    seen = λ i. lookup_last us (name_of o) ((b ∷ bs) ∷ []) (id_of i) g.new ∙ ap (cond (bytes_eq (name_of o) (id_of i)) (Some ((b ∷ bs) ∷ []))) (g.seen i) ∙ with_given o i (b ∷ bs) r;
    flags = λ f. lookup_last us (name_of o) ((b ∷ bs) ∷ []) (flag_name f) g.new ∙ not_flag o f _ _ ∙ g.flags f ∙ ap expect_flag (sym (keeps_flags o f (b ∷ bs) r));
    names = lookup_last us (name_of o) ((b ∷ bs) ∷ []) many_id g.new ∙ not_many o (b ∷ bs) _ ∙ g.names ∙ ap some_names (sym (keeps_names o (b ∷ bs) r));
    new = g.new;
    fits = (clears o (b ∷ bs) r, λ still. keeps_names o (b ∷ bs) r ∙ g.fits.1 (sym (keeps_closed o (b ∷ bs) r) ∙ still));
    ordered = λ none. keeps_names o (b ∷ bs) r ∙ g.ordered (sym (keeps o (b ∷ bs) r) ∙ none);
  };
  grows = omega arith;
  walk = rw (keeps o (b ∷ bs) r) (value_walked us o (place_of r.command) b bs e);
  passes = value_turn us o (place_of r.command) b bs e;
}

-- ---- an option

setting_is : (w : Text) (o : Setting) → setting_of w ≡ Some o → w ≡ word_of o
setting_is w o e = elim (cases_Bool (bytes_eq w (codes "--limit"))) [
  | inl hit ↦ (bytes_eq-Decides w (codes "--limit")).0 hit ∙ ap word_of (same_Some Limit o (rw hit at e))
  | inr miss ↦ elim (cases_Bool (bytes_eq w (codes "--workers"))) [
    | inl hit2 ↦ (bytes_eq-Decides w (codes "--workers")).0 hit2 ∙ ap word_of (same_Some Workers o (rw (miss, hit2) at e))
    | inr miss2 ↦ elim (cases_Bool (bytes_eq w (codes "--waves"))) [
      | inl hit3 ↦ (bytes_eq-Decides w (codes "--waves")).0 hit3 ∙ ap word_of (same_Some Waves o (rw (miss, miss2, hit3) at e))
      | inr miss3 ↦ elim (cases_Bool (bytes_eq w (codes "--journal"))) [
        | inl hit4 ↦ (bytes_eq-Decides w (codes "--journal")).0 hit4 ∙ ap word_of (same_Some Journal o (rw (miss, miss2, miss3, hit4) at e))
        | inr miss4 ↦ absurd (none-some o (rw (miss, miss2, miss3, miss4) at e))
      ]
    ]
  ]
]

none_given : (o : Setting) (r : Read) → is_some (value_of o r) ≡ false → expect (setting o) r ≡ None
none_given o r e = go (value_of o r) e
  where
    go : (v : Option Text) → is_some v ≡ false → option_map (λ x. x ∷ []) v ≡ None
    go None e = refl
    go (Some x) e = absurd (true≢false e)

abbrev after_option : Setting → ℕ → Held → Walk
after_option o p h = walk_with (waits_after o h) (option (name_of o)) p

begin : Setting → Read → Read
begin o r = record r { waits = Some o; closed = r.closed || not (is_empty r.names) }

still_none : (a : Bool) (ns : List Text) → (a || not (is_empty ns)) ≡ false → ns ≡ []
still_none a [] e = refl
still_none true (n ∷ ns) e = absurd (true≢false e)
still_none false (n ∷ ns) e = absurd (true≢false e)

same_setting : (o : Setting) (i : Id) (r : Read) (q : Option Setting) (k : Bool) → expect i (record r { waits = q; closed = k }) ≡ expect i r
same_setting o command r q k = refl
same_setting o (setting Limit) r q k = refl
same_setting o (setting Workers) r q k = refl
same_setting o (setting Waves) r q k = refl
same_setting o (setting Journal) r q k = refl

same_flags : (f : Flag) (r : Read) (q : Option Setting) (k : Bool) → stands f (record r { waits = q; closed = k }) ≡ stands f r
same_flags Spans r q k = refl

option_turned : (r : Read) (s : At) (o : Setting) → Good r s → IsValued s → IsPlainWait (waiting_of s) → growing s ≤ usize_max → is_some (value_of o r) ≡ false
    → Turned r s (word_of o) (begin o r)
unfolding begin
option_turned r s o g v plain room none = record {
  to = waits (uses_of s) o;
  good = record {
    seen = λ i. g.seen i ∙ sym (same_setting o i r _ _);
    flags = λ f. g.flags f ∙ ap expect_flag (sym (same_flags f r _ _));
    names = g.names;
    new = id_of_setting o ∙ g.seen (setting o) ∙ none_given o r none;
    fits = (refl, still_none r.closed r.names);
    ordered = g.ordered;
  };
  grows = omega arith;
  walk = option_walked o (held_of s) (waiting_of s) (place_of r.command) plain ∙ ap (after_option o (place_of r.command)) (settle_is s v g.new);
  passes = option_turn o (held_of s) (waiting_of s) (place_of r.command) plain (settle_ok s v g.new room);
}
  where
    id_of_setting : (o : Setting) → lookup (name_of o) (uses_of s) ≡ lookup (id_of (setting o)) (uses_of s)
    id_of_setting o = refl

-- ---- an option without a value

waits_none : (r : Read) (s : At) → IsValued s → Fits r s → r.waits ≡ None
waits_none r (free us) v f = f.0
waits_none r (one us i w) v f = f.0
waits_none r (many us w ws) v f = f.0
waits_none r (waits us o) v f = absurd v

flag_is : (w : Text) (f : Flag) → flag_of w ≡ Some f → w ≡ flag_word f
flag_is w f e = elim (cases_Bool (bytes_eq w (codes "--spans"))) [
  | inl hit ↦ (bytes_eq-Decides w (codes "--spans")).0 hit ∙ ap flag_word (same_Some Spans f (rw hit at e))
  | inr miss ↦ absurd (none-some f (rw miss at e))
]

not_id : (f : Flag) (i : Id) (ws : List Text) (found : Option (List Text)) → cond (bytes_eq (flag_name f) (id_of i)) (Some ws) found ≡ found
not_id Spans (setting Limit) ws found = refl
not_id Spans (setting Workers) ws found = refl
not_id Spans (setting Waves) ws found = refl
not_id Spans (setting Journal) ws found = refl
not_id Spans command ws found = refl

keeps_seen : (f : Flag) (i : Id) (r : Read) → expect i (with_flag f r) ≡ expect i r
keeps_seen Spans (setting Limit) r = refl
keeps_seen Spans (setting Workers) r = refl
keeps_seen Spans (setting Waves) r = refl
keeps_seen Spans (setting Journal) r = refl
keeps_seen Spans command r = refl

is_flag : (f g : Flag) (r : Read) (found : Option (List Text)) → cond (bytes_eq (flag_name f) (flag_name g)) (Some (codes "true" ∷ [])) found ≡ expect_flag (stands g (with_flag f r))
is_flag Spans Spans r found = refl

abbrev after_flag : Flag → ℕ → Held → Walk
after_flag f p h = walk_with (flag_held f h) idle p

flag_turned : (r : Read) (s : At) (f : Flag) → Good r s → IsValued s → IsPlainWait (waiting_of s) → growing s ≤ usize_max → stands f r ≡ false
    → Turned r s (flag_word f) (with_flag f r)
flag_turned r s Spans g v plain room none =
    let fresh : lookup (codes "spans") (uses_of s) ≡ None = g.flags Spans ∙ ap expect_flag none in
    record {
      to = free (uses_of s ++ flag_use Spans ∷ []);
      good = record {
        seen = λ i. lookup_last (uses_of s) (codes "spans") (codes "true" ∷ []) (id_of i) fresh ∙ not_id Spans i _ _ ∙ g.seen i ∙ sym (keeps_seen Spans i r);
        flags = λ f. lookup_last (uses_of s) (codes "spans") (codes "true" ∷ []) (flag_name f) fresh ∙ is_flag Spans f r _;
        names = lookup_last (uses_of s) (codes "spans") (codes "true" ∷ []) many_id fresh ∙ g.names;
        new = tt;
        fits = (waits_none r s v g.fits, still_none r.closed r.names);
        ordered = g.ordered;
      };
      grows = omega arith;
      walk = flag_walked Spans (held_of s) (waiting_of s) (place_of r.command) plain ∙ ap (after_flag Spans (place_of r.command)) (settle_is s v g.new)
          ∙ ap (λ rs. walk_with (held_with rs) idle (place_of r.command)) (set_row (codes "spans") (codes "true" ∷ []) (uses_of s) fresh);
      passes = flag_turn Spans (held_of s) (waiting_of s) (place_of r.command) plain (settle_ok s v g.new room)
          (ap (λ (h : Held). has_row (codes "spans") h.rows) (settle_is s v g.new) ∙ has_none (codes "spans") (uses_of s) fresh);
    }

-- ---- the command and the names

or_true : (a : Bool) → (a || true) ≡ true
or_true true = refl
or_true false = refl

step_one : (s : At) → settle_passes rules false (held_of s) ≡ true → step_passes shape 1 (held_of s) value ≡ true
step_one s e = rw e (or_true _)

step_two : (s : At) → settle_passes rules false (held_of s) ≡ true → step_passes shape 2 (held_of s) value ≡ true
step_two s e = rw e (or_true _)

with_command : (i : Id) (w : Text) (r : Read) → cond (bytes_eq (codes "command") (id_of i)) (Some (w ∷ [])) (expect i r) ≡ expect i (record r { command = Some w })
with_command (setting Limit) w r = refl
with_command (setting Workers) w r = refl
with_command (setting Waves) w r = refl
with_command (setting Journal) w r = refl
with_command command w r = refl

flag_not_command : (f : Flag) (ws : List Text) (found : Option (List Text)) → cond (bytes_eq (codes "command") (flag_name f)) (Some ws) found ≡ found
flag_not_command Spans ws found = refl

same_by_command : (f : Flag) (c : Option Text) (r : Read) → stands f (record r { command = c }) ≡ stands f r
same_by_command Spans c r = refl

command_turned : (r : Read) (s : At) (b : ℕ) (bs : Text) → Good r s → IsValued s → IsPlainWait (waiting_of s) → growing s ≤ usize_max → r.command ≡ None → (b == 45) ≡ false
    → Turned r s (b ∷ bs) (record r { command = Some (b ∷ bs) })
command_turned r s b bs g v plain room none e =
    let fresh : lookup (codes "command") (uses_of s) ≡ None = g.seen command ∙ ap (option_map (λ x. x ∷ [])) none in
    record {
      to = one (uses_of s) command (b ∷ bs);
      good = record {
        seen = λ i. lookup_last (uses_of s) (codes "command") ((b ∷ bs) ∷ []) (id_of i) fresh ∙ ap (cond (bytes_eq (codes "command") (id_of i)) (Some ((b ∷ bs) ∷ []))) (g.seen i) ∙ with_command i (b ∷ bs) r;
        flags = λ f. lookup_last (uses_of s) (codes "command") ((b ∷ bs) ∷ []) (flag_name f) fresh ∙ flag_not_command f _ _ ∙ g.flags f ∙ ap expect_flag (sym (same_by_command f _ r));
        names = lookup_last (uses_of s) (codes "command") ((b ∷ bs) ∷ []) many_id fresh ∙ g.names;
        new = fresh;
        fits = (waits_none r s v g.fits, λ _. g.ordered none);
        ordered = λ bad. absurd (none-some (b ∷ bs) (sym bad));
      };
      grows = omega arith;
      walk = rw none (plain_walked (held_of s) (waiting_of s) 1 b bs plain e ∙ to_command s (b ∷ bs) v g.new);
      passes = rw none (plain_turn (held_of s) (waiting_of s) 1 b bs plain e ∙ step_one s (settle_ok s v g.new room));
    }

not_names : (i : Id) (ws : List Text) (found : Option (List Text)) → cond (bytes_eq many_id (id_of i)) (Some ws) found ≡ found
not_names (setting Limit) w f = refl
not_names (setting Workers) w f = refl
not_names (setting Waves) w f = refl
not_names (setting Journal) w f = refl
not_names command w f = refl

same_names : (i : Id) (ns : List Text) (r : Read) → expect i (record r { names = ns }) ≡ expect i r
same_names (setting Limit) w r = refl
same_names (setting Workers) w r = refl
same_names (setting Waves) w r = refl
same_names (setting Journal) w r = refl
same_names command w r = refl

flag_not_names : (f : Flag) (ws : List Text) (found : Option (List Text)) → cond (bytes_eq many_id (flag_name f)) (Some ws) found ≡ found
flag_not_names Spans ws found = refl

same_by_names : (f : Flag) (ns : List Text) (r : Read) → stands f (record r { names = ns }) ≡ stands f r
same_by_names Spans ns r = refl

-- the first name
name_turned : (r : Read) (s : At) (c : Text) (b : ℕ) (bs : Text) → Good r s → IsValued s → IsPlainWait (waiting_of s) → growing s ≡ 0 → r.command ≡ Some c → r.names ≡ [] → (b == 45) ≡ false
    → Turned r s (b ∷ bs) (record r { names = r.names ++ (b ∷ bs) ∷ [] })
name_turned r s c b bs g v plain zero some empty e =
    let fresh : lookup many_id (uses_of s) ≡ None = g.names ∙ ap some_names empty in
    let all : r.names ++ (b ∷ bs) ∷ [] ≡ (b ∷ bs) ∷ [] = ap (λ ns. ns ++ (b ∷ bs) ∷ []) empty in
    record {
      to = many (uses_of s) (b ∷ bs) [];
      good = record {
        seen = λ i. lookup_last (uses_of s) many_id ((b ∷ bs) ∷ []) (id_of i) fresh ∙ not_names i _ _ ∙ g.seen i ∙ sym (same_names i _ r);
        flags = λ f. lookup_last (uses_of s) many_id ((b ∷ bs) ∷ []) (flag_name f) fresh ∙ flag_not_names f _ _ ∙ g.flags f ∙ ap expect_flag (sym (same_by_names f _ r));
        names = lookup_last (uses_of s) many_id ((b ∷ bs) ∷ []) many_id fresh ∙ ap some_names (sym all);
        new = fresh;
        fits = (waits_none r s v g.fits, all);
        ordered = λ bad. absurd (none-some c (sym bad ∙ some));
      };
      grows = omega arith;
      walk = rw some (plain_walked (held_of s) (waiting_of s) 2 b bs plain e ∙ to_names s (b ∷ bs) v g.new zero);
      passes = rw some (plain_turn (held_of s) (waiting_of s) 2 b bs plain e ∙ step_two s (settle_ok s v g.new (omega (arith, zero))));
    }

-- one name more
more_turned : (r : Read) (us : List Use) (x : Text) (xs : List Text) (c : Text) (b : ℕ) (bs : Text) → Good r (many us x xs) → length (x ∷ xs) ≤ usize_max → r.command ≡ Some c → (b == 45) ≡ false
    → Turned r (many us x xs) (b ∷ bs) (record r { names = r.names ++ (b ∷ bs) ∷ [] })
more_turned r us x xs c b bs g room some e =
    let all : r.names ++ (b ∷ bs) ∷ [] ≡ x ∷ (xs ++ (b ∷ bs) ∷ []) = ap (λ ns. ns ++ (b ∷ bs) ∷ []) g.fits.1 in
    record {
      to = many us x (xs ++ (b ∷ bs) ∷ []);
      good = record {
        seen = λ i. lookup_last us many_id (x ∷ (xs ++ (b ∷ bs) ∷ [])) (id_of i) g.new ∙ not_names i _ _ ∙ sym (not_names i (x ∷ xs) _) ∙ sym (lookup_last us many_id (x ∷ xs) (id_of i) g.new) ∙ g.seen i ∙ sym (same_names i _ r);
        flags = λ f. lookup_last us many_id (x ∷ (xs ++ (b ∷ bs) ∷ [])) (flag_name f) g.new ∙ flag_not_names f _ _ ∙ sym (flag_not_names f (x ∷ xs) _) ∙ sym (lookup_last us many_id (x ∷ xs) (flag_name f) g.new) ∙ g.flags f
            ∙ ap expect_flag (sym (same_by_names f _ r));
        names = lookup_last us many_id (x ∷ (xs ++ (b ∷ bs) ∷ [])) many_id g.new ∙ ap some_names (sym all);
        new = g.new;
        fits = (g.fits.0, all);
        ordered = λ bad. absurd (none-some c (sym bad ∙ some));
      };
      grows = omega (arith, length-append xs ((b ∷ bs) ∷ []));
      walk = rw some (plain_walked (held_of (many us x xs)) positional 2 b bs tt e ∙ to_more us x xs (b ∷ bs));
      passes = rw some (plain_turn (held_of (many us x xs)) positional 2 b bs tt e ∙ step_two (many us x xs) (settle_ok (many us x xs) tt g.new room));
    }

-- ---- any word

plain_wait : (s : At) → IsValued s → IsPlainWait (waiting_of s)
plain_wait (free us) v = tt
plain_wait (one us i w) v = tt
plain_wait (many us w ws) v = tt
plain_wait (waits us o) v = absurd v

not_cut : (k : Bool) (x y : Read) → cond k None (Some x) ≡ Some y → (k ≡ false) × (x ≡ y)
not_cut true x y e = absurd (none-some y e)
not_cut false x y e = (refl, same_Some x y e)

one_side : (k : Bool) (x y z : Option Read) → cond k x y ≡ z → ((k ≡ true) × (x ≡ z)) ⊎ ((k ≡ false) × (y ≡ z))
one_side true x y z e = inl (refl, e)
one_side false x y z e = inr (refl, e)

-- a name that the reading takes
any_name : (r next : Read) (s : At) (c : Text) (b : ℕ) (bs : Text) → Good r s → IsValued s → growing s ≤ usize_max → r.command ≡ Some c → (b == 45) ≡ false
    → named (Some c) (b ∷ bs) r ≡ Some next → Turned r s (b ∷ bs) next
any_name r next s c b bs g v room some e is =
    let cut = not_cut r.closed (record r { names = r.names ++ (b ∷ bs) ∷ [] }) next is in
    subst (Turned r s (b ∷ bs)) cut.1 (by_at s g v room cut.0)
  where
    by_at : (s : At) → Good r s → IsValued s → growing s ≤ usize_max → r.closed ≡ false → Turned r s (b ∷ bs) (record r { names = r.names ++ (b ∷ bs) ∷ [] })
    by_at (free us) g v room still = name_turned r (free us) c b bs g v tt refl some (g.fits.1 still) e
    by_at (one us i w) g v room still = name_turned r (one us i w) c b bs g v tt refl some (g.fits.1 still) e
    by_at (many us x xs) g v room still = more_turned r us x xs c b bs g room some e
    by_at (waits us o) g v room still = absurd v

any_plain : (r next : Read) (s : At) (b : ℕ) (bs : Text) → Good r s → IsValued s → growing s ≤ usize_max → (b == 45) ≡ false
    → named r.command (b ∷ bs) r ≡ Some next → Turned r s (b ∷ bs) next
any_plain r next s b bs g v room e is = go r.command refl is
  where
    go : (q : Option Text) → r.command ≡ q → named q (b ∷ bs) r ≡ Some next → Turned r s (b ∷ bs) next
    go None none is = subst (Turned r s (b ∷ bs)) (same_Some (record r { command = Some (b ∷ bs) }) next is) (command_turned r s b bs g v (plain_wait s v) room none e)
    go (Some c) some is = any_name r next s c b bs g v room some e is

any_option : (r next : Read) (s : At) (w : Text) → Good r s → IsValued s → growing s ≤ usize_max → begun (setting_of w) r ≡ Some next → Turned r s w next
unfolding begin
any_option r next s w g v room is = go (setting_of w) refl is
  where
    go : (q : Option Setting) → setting_of w ≡ q → begun q r ≡ Some next → Turned r s w next
    go None none is = absurd (none-some next is)
    go (Some o) some is =
        let cut = not_cut (is_some (value_of o r)) (begin o r) next is in
        subst (λ x. Turned r s x next) (sym (setting_is w o some)) (subst (Turned r s (word_of o)) cut.1 (option_turned r s o g v (plain_wait s v) room cut.0))

any_flag : (r next : Read) (s : At) (w : Text) (f : Flag) → Good r s → IsValued s → growing s ≤ usize_max → flag_of w ≡ Some f → flagged f r ≡ Some next → Turned r s w next
any_flag r next s w f g v room some is =
    let cut = not_cut (stands f r) (with_flag f r) next is in
    subst (λ x. Turned r s x next) (sym (flag_is w f some)) (subst (Turned r s (flag_word f)) cut.1 (flag_turned r s f g v (plain_wait s v) room cut.0))

any_dashed : (r next : Read) (s : At) (w : Text) → Good r s → IsValued s → growing s ≤ usize_max → dashed (flag_of w) w r ≡ Some next → Turned r s w next
any_dashed r next s w g v room is = go (flag_of w) refl is
  where
    go : (q : Option Flag) → flag_of w ≡ q → dashed q w r ≡ Some next → Turned r s w next
    go None none is = any_option r next s w g v room is
    go (Some f) some is = any_flag r next s w f g v room some is

any_valued : (r next : Read) (s : At) (b : ℕ) (bs : Text) → Good r s → IsValued s → growing s ≤ usize_max → by_waits r.waits (b ∷ bs) r ≡ Some next → Turned r s (b ∷ bs) next
any_valued r next s b bs g v room is =
    let none : by_waits None (b ∷ bs) r ≡ Some next = ap (λ q. by_waits q (b ∷ bs) r) (sym (waits_none r s v g.fits)) ∙ is in
    elim (one_side (b == 45) (dashed (flag_of (b ∷ bs)) (b ∷ bs) r) (named r.command (b ∷ bs) r) (Some next) none) [
      | inl h ↦ any_dashed r next s (b ∷ bs) g v room h.1
      | inr h ↦ any_plain r next s b bs g v room h.0 h.1
    ]

any_value : (r next : Read) (us : List Use) (o : Setting) (b : ℕ) (bs : Text) → Good r (waits us o) → by_waits r.waits (b ∷ bs) r ≡ Some next → Turned r (waits us o) (b ∷ bs) next
any_value r next us o b bs g is =
    let some : by_waits (Some o) (b ∷ bs) r ≡ Some next = ap (λ q. by_waits q (b ∷ bs) r) (sym g.fits.0) ∙ is in
    let cut = not_cut (b == 45) (with_value o (b ∷ bs) r) next some in
    subst (Turned r (waits us o) (b ∷ bs)) cut.1 (value_turned r us o b bs g cut.0)

pub turned : (r next : Read) (s : At) (w : Text) → Good r s → growing s ≤ usize_max → step w r ≡ Some next → Turned r s w next
turned r next s [] g room is = absurd (none-some next is)
turned r next (free us) (b ∷ bs) g room is = any_valued r next (free us) b bs g tt room is
turned r next (one us i v) (b ∷ bs) g room is = any_valued r next (one us i v) b bs g tt room is
turned r next (many us v vs) (b ∷ bs) g room is = any_valued r next (many us v vs) b bs g tt room is
turned r next (waits us o) (b ∷ bs) g room is = any_value r next us o b bs g is
