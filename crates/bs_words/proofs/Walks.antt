-- The walk of the parser over a plain list.
use Rattle.std.proofs.Common.{◌≡◌, ◌∙◌, ◌≤◌, ◌==◌, ℕ, true, false, refl, ap, arith, List, [], ◌∷◌, ◌++◌, length, le-leb, Option, Some, None, codes, append-nil}
use Rattle.std.specs.Bool.{⊤}
use Rattle.clap.specs.Lexer.{usize_max}
use Rattle.clap.specs.Walk.{has_row, Held, Row, Rule, Text, Waiting, idle, positional, option, Walk, walked, settled, with_values, without, more_values, to_positional, arg_by_index, value, pushed}
use Rattle.clap.specs.declared.builder.value_parser.Reading.TheVariants.{AsWritten}
use Rattle.clap.specs.declared.parser.matches.ValueSource.TheVariants.{CommandLine}
use Rattle.clap.specs.declared.builder.value_parser.ValueParser.TheVariants.{String as string_parser}
use Rattle.clap.specs.ValueTests.{accepts}
use Rattle.std.specs.List.{list_all}
use Rattle.clap.specs.Simple.{Shape, built}
use Rattle.clap.specs.Takes.{settle_passes, turn_passes, step_passes}
use Rattle.clap.proofs.OnLiterals.{clap_on_literals}
use Rattle.bs_words.specs.App.{words_app}
use Rattle.bs_words.specs.declared.flag.Flag.{Flag}
use Rattle.bs_words.specs.declared.flag.Flag.TheVariants.{Spans}
use Rattle.bs_words.specs.declared.setting.Setting.{Setting}
use Rattle.bs_words.specs.declared.setting.Setting.TheVariants.{Limit, Workers, Waves, Journal}
use Rattle.bs_words.proofs.Uses.{Use, row, rows, lookup, at_none, has_none}

abbrev pub shape : Shape
shape = (built words_app).top

abbrev pub rules : List Rule
rules = shape.rules

-- what has one value
pub data Id : Type 0 where
  setting : Setting → Id
  command : Id

abbrev pub name_of : Setting → Text
name_of Limit = codes "limit"
name_of Workers = codes "workers"
name_of Waves = codes "waves"
name_of Journal = codes "journal"

abbrev pub id_of : Id → Text
id_of (setting o) = name_of o
id_of command = codes "command"

abbrev pub many_id : Text
many_id = codes "names"

abbrev pub flag_name : Flag → Text
flag_name Spans = codes "spans"

-- an option without a value, as it is used
abbrev pub flag_use : Flag → Use
flag_use f = (flag_name f, codes "true" ∷ [])

-- where the walk stands: with nothing pending, or after a use whose values may still grow, or at an
-- option that waits for its value
pub data At : Type 0 where
  free : List Use → At
  one : List Use → Id → Text → At
  many : List Use → Text → List Text → At
  waits : List Use → Setting → At

abbrev pub uses_of : At → List Use
uses_of (free us) = us
uses_of (one us i v) = us ++ (id_of i, v ∷ []) ∷ []
uses_of (many us v vs) = us ++ (many_id, v ∷ vs) ∷ []
uses_of (waits us o) = us

abbrev pub done_of : At → List Use
done_of (free us) = us
done_of (one us i v) = us
done_of (many us v vs) = us
done_of (waits us o) = us

abbrev pub pending_of : At → Option (Text × List Text)
pending_of (free us) = None
pending_of (one us i v) = Some (id_of i, v ∷ [])
pending_of (many us v vs) = Some (many_id, v ∷ vs)
pending_of (waits us o) = Some (name_of o, [])

abbrev pub waiting_of : At → Waiting
waiting_of (waits us o) = option (name_of o)
waiting_of (many us v vs) = positional
waiting_of _ = idle

abbrev pub held_of : At → Held
held_of s = record { rows = rows (done_of s); pending = pending_of s; skip = 0 }

abbrev pub walk_at : At → ℕ → Walk
walk_at s p = record { held = held_of s; waiting = waiting_of s; position = p; is_trailing = false; stopped = None }

abbrev pub walk_with : Held → Waiting → ℕ → Walk
walk_with h u p = record { held = h; waiting = u; position = p; is_trailing = false; stopped = None }

-- nothing pending
abbrev pub closed_held : List Use → Held
closed_held us = record { rows = rows us; pending = None; skip = 0 }

-- what was not used before
abbrev pub IsNew : At → Type 0
IsNew (free us) = ⊤
IsNew (one us i v) = lookup (id_of i) us ≡ None
IsNew (many us v vs) = lookup many_id us ≡ None
IsNew (waits us o) = lookup (name_of o) us ≡ None

-- the number of names that may still grow
abbrev pub growing : At → ℕ
growing (many us v vs) = length (v ∷ vs)
growing _ = 0

abbrev pub IsValued : At → Type 0
IsValued (waits us o) = ⊥
IsValued _ = ⊤

append_row : (us : List Use) (u : Use) → rows us ++ row u ∷ [] ≡ rows (us ++ u ∷ [])
append_row [] u = refl
append_row (x ∷ us) u = ap (λ rs. row x ∷ rs) (append_row us u)

pub set_row : (k : Text) (vs : List Text) (us : List Use) → lookup k us ≡ None → with_values k AsWritten CommandLine vs (without k (rows us)) ≡ rows (us ++ (k, vs) ∷ [])
set_row k vs us n = ap (with_values k AsWritten CommandLine vs) (at_none k (λ _. []) [] us n ∙ append-nil (rows us)) ∙ add_row k vs us n
  where
    add_row : (k : Text) (vs : List Text) (us : List Use) → lookup k us ≡ None → with_values k AsWritten CommandLine vs (rows us) ≡ rows (us ++ (k, vs) ∷ [])
    add_row k vs us n = at_none k (more_values CommandLine vs) (row (k, vs) ∷ []) us n ∙ append_row us (k, vs)

abbrev pub held_with : List Row → Held
held_with rs = record { rows = rs; pending = None; skip = 0 }

-- the pending use joins the rows
pub settle_is : (s : At) → IsValued s → IsNew s → settled rules (held_of s) ≡ closed_held (uses_of s)
settle_is (free us) v n = refl
settle_is (one us command w) v n = ap held_with (set_row (codes "command") (w ∷ []) us n)
settle_is (one us (setting Limit) w) v n = ap held_with (set_row (codes "limit") (w ∷ []) us n)
settle_is (one us (setting Workers) w) v n = ap held_with (set_row (codes "workers") (w ∷ []) us n)
settle_is (one us (setting Waves) w) v n = ap held_with (set_row (codes "waves") (w ∷ []) us n)
settle_is (one us (setting Journal) w) v n = ap held_with (set_row (codes "journal") (w ∷ []) us n)
settle_is (many us w ws) v n = ap held_with (at_none many_id (more_values CommandLine (w ∷ ws)) (row (many_id, w ∷ ws) ∷ []) us n ∙ append_row us (many_id, w ∷ ws))
settle_is (waits us o) v n = absurd v

texts_pass : (vs : List Text) → list_all (λ t. accepts false string_parser t) vs ≡ true
texts_pass [] = refl
texts_pass (v ∷ vs) = texts_pass vs

-- and passes
pub settle_ok : (s : At) → IsValued s → IsNew s → growing s ≤ usize_max → settle_passes rules false (held_of s) ≡ true
settle_ok (free us) v n g = refl
settle_ok (one us command w) v n g = rw (has_none (codes "command") us n) refl
settle_ok (one us (setting Limit) w) v n g = rw (has_none (codes "limit") us n) refl
settle_ok (one us (setting Workers) w) v n g = rw (has_none (codes "workers") us n) refl
settle_ok (one us (setting Waves) w) v n g = rw (has_none (codes "waves") us n) refl
settle_ok (one us (setting Journal) w) v n g = rw (has_none (codes "journal") us n) refl
settle_ok (many us w ws) v n g = rw (le-leb 1 (length (w ∷ ws)) (omega arith), le-leb (length (w ∷ ws)) usize_max g) (texts_pass (w ∷ ws))
settle_ok (waits us o) v n g = absurd v

abbrev pub IsPlainWait : Waiting → Type 0
IsPlainWait (option id) = ⊥
IsPlainWait _ = ⊤

-- a word that begins with no hyphen is a value of a positional
pub plain_walked : (h : Held) (u : Waiting) (p : ℕ) (b : ℕ) (bs : Text) → IsPlainWait u → (b == 45) ≡ false
    → walked rules [] (walk_with h u p) (b ∷ bs) ≡ to_positional rules (arg_by_index rules p) (b ∷ bs) (walk_with h u p) h
unfolding clap_on_literals
plain_walked h idle p b bs n e = rw e (rw e refl)
plain_walked h positional p b bs n e = rw e (rw e refl)
plain_walked h (option id) p b bs n e = absurd n

pub plain_turn : (h : Held) (u : Waiting) (p : ℕ) (b : ℕ) (bs : Text) → IsPlainWait u → (b == 45) ≡ false
    → turn_passes shape [] (walk_with h u p) (b ∷ bs) ≡ step_passes shape p h value
unfolding clap_on_literals
plain_turn h idle p b bs n e = rw e (rw e refl)
plain_turn h positional p b bs n e = rw e (rw e refl)
plain_turn h (option id) p b bs n e = absurd n

abbrev walk_after : Text → Text → Waiting → Held → Walk
walk_after id w u h = record { held = pushed id w h; waiting = u; position = 2; is_trailing = false; stopped = None }

-- the first positional takes the word
pub to_command : (s : At) (w : Text) → IsValued s → IsNew s
    → to_positional rules (arg_by_index rules 1) w (walk_at s 1) (held_of s) ≡ walk_at (one (uses_of s) command w) 2
to_command (free us) w v n = refl
to_command (one us command x) w v n = ap (walk_after (codes "command") w idle) (settle_is (one us command x) v n)
to_command (one us (setting Limit) x) w v n = ap (walk_after (codes "command") w idle) (settle_is (one us (setting Limit) x) v n)
to_command (one us (setting Workers) x) w v n = ap (walk_after (codes "command") w idle) (settle_is (one us (setting Workers) x) v n)
to_command (one us (setting Waves) x) w v n = ap (walk_after (codes "command") w idle) (settle_is (one us (setting Waves) x) v n)
to_command (one us (setting Journal) x) w v n = ap (walk_after (codes "command") w idle) (settle_is (one us (setting Journal) x) v n)
to_command (many us x xs) w v n = ap (walk_after (codes "command") w idle) (settle_is (many us x xs) v n)
to_command (waits us o) w v n = absurd v

-- a name after something else
pub to_names : (s : At) (w : Text) → IsValued s → IsNew s → growing s ≡ 0
    → to_positional rules (arg_by_index rules 2) w (walk_at s 2) (held_of s) ≡ walk_at (many (uses_of s) w []) 2
to_names (free us) w v n g = refl
to_names (one us command x) w v n g = ap (walk_after many_id w positional) (settle_is (one us command x) v n)
to_names (one us (setting Limit) x) w v n g = ap (walk_after many_id w positional) (settle_is (one us (setting Limit) x) v n)
to_names (one us (setting Workers) x) w v n g = ap (walk_after many_id w positional) (settle_is (one us (setting Workers) x) v n)
to_names (one us (setting Waves) x) w v n g = ap (walk_after many_id w positional) (settle_is (one us (setting Waves) x) v n)
to_names (one us (setting Journal) x) w v n g = ap (walk_after many_id w positional) (settle_is (one us (setting Journal) x) v n)
to_names (many us x xs) w v n g = absurd (omega (arith, g))
to_names (waits us o) w v n g = absurd v

-- one name more
pub to_more : (us : List Use) (x : Text) (xs : List Text) (w : Text)
    → to_positional rules (arg_by_index rules 2) w (walk_at (many us x xs) 2) (held_of (many us x xs)) ≡ walk_at (many us x (xs ++ w ∷ [])) 2
to_more us x xs w = refl

abbrev pub word_of : Setting → Text
word_of Limit = codes "--limit"
word_of Workers = codes "--workers"
word_of Waves = codes "--waves"
word_of Journal = codes "--journal"

abbrev pub waits_after : Setting → Held → Held
waits_after o h = record h { pending = Some (name_of o, []) }

pub option_walked : (o : Setting) (h : Held) (u : Waiting) (p : ℕ) → IsPlainWait u
    → walked rules [] (walk_with h u p) (word_of o) ≡ walk_with (waits_after o (settled rules h)) (option (name_of o)) p
unfolding clap_on_literals
option_walked Limit h idle p n = refl
option_walked Workers h idle p n = refl
option_walked Waves h idle p n = refl
option_walked Journal h idle p n = refl
option_walked Limit h positional p n = refl
option_walked Workers h positional p n = refl
option_walked Waves h positional p n = refl
option_walked Journal h positional p n = refl
option_walked o h (option id) p n = absurd n

pub option_turn : (o : Setting) (h : Held) (u : Waiting) (p : ℕ) → IsPlainWait u → settle_passes rules false h ≡ true
    → turn_passes shape [] (walk_with h u p) (word_of o) ≡ true
unfolding clap_on_literals
option_turn Limit h idle p n e = rw e refl
option_turn Workers h idle p n e = rw e refl
option_turn Waves h idle p n e = rw e refl
option_turn Journal h idle p n e = rw e refl
option_turn Limit h positional p n e = rw e refl
option_turn Workers h positional p n e = rw e refl
option_turn Waves h positional p n e = rw e refl
option_turn Journal h positional p n e = rw e refl
option_turn o h (option id) p n e = absurd n

pub value_walked : (us : List Use) (o : Setting) (p b : ℕ) (bs : Text) → (b == 45) ≡ false
    → walked rules [] (walk_at (waits us o) p) (b ∷ bs) ≡ walk_at (one us (setting o) (b ∷ bs)) p
unfolding clap_on_literals
value_walked us Limit p b bs e = rw e (rw e refl)
value_walked us Workers p b bs e = rw e (rw e refl)
value_walked us Waves p b bs e = rw e (rw e refl)
value_walked us Journal p b bs e = rw e (rw e refl)

pub value_turn : (us : List Use) (o : Setting) (p b : ℕ) (bs : Text) → (b == 45) ≡ false → turn_passes shape [] (walk_at (waits us o) p) (b ∷ bs) ≡ true
unfolding clap_on_literals
value_turn us Limit p b bs e = rw e (rw e refl)
value_turn us Workers p b bs e = rw e (rw e refl)
value_turn us Waves p b bs e = rw e (rw e refl)
value_turn us Journal p b bs e = rw e (rw e refl)

abbrev pub flag_word : Flag → Text
flag_word Spans = codes "--spans"

abbrev pub used_flag : Flag → List Row → List Row
used_flag f rs = with_values (flag_name f) AsWritten CommandLine (codes "true" ∷ []) (without (flag_name f) rs)

abbrev pub flag_held : Flag → Held → Held
flag_held f h = record h { rows = used_flag f h.rows; pending = None }

-- an option without a value is used at once
pub flag_walked : (f : Flag) (h : Held) (u : Waiting) (p : ℕ) → IsPlainWait u
    → walked rules [] (walk_with h u p) (flag_word f) ≡ walk_with (flag_held f (settled rules h)) idle p
unfolding clap_on_literals
flag_walked Spans h idle p n = refl
flag_walked Spans h positional p n = refl
flag_walked f h (option id) p n = absurd n

pub flag_turn : (f : Flag) (h : Held) (u : Waiting) (p : ℕ) → IsPlainWait u → settle_passes rules false h ≡ true → has_row (flag_name f) (settled rules h).rows ≡ false
    → turn_passes shape [] (walk_with h u p) (flag_word f) ≡ true
unfolding clap_on_literals
flag_turn Spans h idle p n e new = rw (e, new) refl
flag_turn Spans h positional p n e new = rw (e, new) refl
flag_turn f h (option id) p n e new = absurd n
