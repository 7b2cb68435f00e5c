-- The tests of the parts, each by itself, are those that the reading makes as it goes.
use Rattle.std.proofs.Common.{◌≡◌, ◌∙◌, ◌&&◌, ◌||◌, Bool, cond, true, false, not, refl, sym, ap, List, [], ◌∷◌, ◌++◌, Option, Some, None, is_some, true≢false, append-nil, append_assoc}
use Rattle.std.specs.Option.{option_map, option_and_then}
use Rattle.std.proofs.lemmas.Option.{none-some}
use Rattle.bs_words.specs.Plain.{Text, Read, nothing, value_of, stands, with_flag, named, is_empty}
use Rattle.bs_words.specs.Texts.{Texts, plain_texts}
use Rattle.bs_words.specs.Parts.{Part, valued, flag, stands_in, bare, parts, same, value_in, is_once, bares, after_name, after_command, is_together, texts_by, texts_of_parts, reading}
use Rattle.bs_words.specs.declared.flag.Flag.{Flag}
use Rattle.bs_words.specs.declared.flag.Flag.TheVariants.{Spans}
use Rattle.bs_words.specs.declared.setting.Setting.{Setting}
use Rattle.bs_words.specs.declared.setting.Setting.TheVariants.{Limit, Workers, Waves, Journal}
use Rattle.bs_words.proofs.ByParts.{given, run, to_parts}

abbrev first_some : Option Text → Option Text → Option Text
first_some (Some v) x = Some v
first_some None x = x

-- no option of the parts was given before
abbrev clear : Read → List Part → Bool
clear r [] = true
clear r (valued o v ∷ ps) = not (is_some (value_of o r)) && clear r ps
clear r (flag f ∷ ps) = not (stands f r) && clear r ps
clear r (bare w ∷ ps) = clear r ps

abbrev names_ok : Bool → List Text → List Part → Bool
names_ok true ns ps = is_empty (bares ps)
names_ok false [] ps = after_command ps
names_ok false (n ∷ ns) ps = after_name ps

abbrev ok : Option Text → Read → List Part → Bool
ok None r ps = is_together ps
ok (Some c) r ps = names_ok r.closed r.names ps

abbrev filled : Text → List Text → Read → List Part → Texts
filled c ns r ps = record {
  command = c;
  names = ns;
  limit = first_some r.limit (value_in Limit ps);
  workers = first_some r.workers (value_in Workers ps);
  waves = first_some r.waves (value_in Waves ps);
  journal = first_some r.journal (value_in Journal ps);
  spans = r.spans || stands_in Spans ps;
}

abbrev by_bares : List Text → Read → List Part → Option Texts
by_bares [] r ps = None
by_bares (c ∷ ns) r ps = Some (filled c ns r ps)

abbrev result : Option Text → Read → List Part → Option Texts
result None r ps = by_bares (bares ps) r ps
result (Some c) r ps = Some (filled c (r.names ++ bares ps) r ps)

abbrev expected : Option Text → Read → List Part → Option Texts
expected c r ps = cond (clear r ps && (is_once ps && ok c r ps)) (result c r ps) None

abbrev Starts : Read → Type 0
Starts r = r.command ≡ None → (r.closed ≡ false) × (r.names ≡ [])

-- ---- at the end

first_none : (x : Option Text) → first_some x None ≡ x
first_none None = refl
first_none (Some v) = refl

or_false : (k : Bool) → (k || false) ≡ k
or_false true = refl
or_false false = refl

none_left : (k : Bool) (ns : List Text) → names_ok k ns [] ≡ true
none_left true ns = refl
none_left false [] = refl
none_left false (n ∷ ns) = refl

filled_end : (c : Text) (r : Read) → record { command = c; names = r.names; limit = r.limit; workers = r.workers; waves = r.waves; journal = r.journal; spans = r.spans } ≡ filled c (r.names ++ []) r []
filled_end c r = λ i. record {
  command = c;
  names = (sym (append-nil r.names)) i;
  limit = (sym (first_none r.limit)) i;
  workers = (sym (first_none r.workers)) i;
  waves = (sym (first_none r.waves)) i;
  journal = (sym (first_none r.journal)) i;
  spans = (sym (or_false r.spans)) i;
}

at_end : (c : Option Text) (r : Read) → option_map (λ x. record { command = x; names = r.names; limit = r.limit; workers = r.workers; waves = r.waves; journal = r.journal; spans = r.spans }) c ≡ expected c r []
at_end None r = refl
at_end (Some c) r = ap (λ t. Some t) (filled_end c r) ∙ sym (ap (λ k. cond k (Some (filled c (r.names ++ []) r [])) None) (none_left r.closed r.names))

-- ---- an option

value_given : (q o : Setting) (v : Text) (r : Read) → value_of q (given o v r) ≡ cond (same o q) (Some v) (value_of q r)
value_given Limit Limit v r = refl
value_given Limit Workers v r = refl
value_given Limit Waves v r = refl
value_given Limit Journal v r = refl
value_given Workers Limit v r = refl
value_given Workers Workers v r = refl
value_given Workers Waves v r = refl
value_given Workers Journal v r = refl
value_given Waves Limit v r = refl
value_given Waves Workers v r = refl
value_given Waves Waves v r = refl
value_given Waves Journal v r = refl
value_given Journal Limit v r = refl
value_given Journal Workers v r = refl
value_given Journal Waves v r = refl
value_given Journal Journal v r = refl

stands_given : (f : Flag) (o : Setting) (v : Text) (r : Read) → stands f (given o v r) ≡ stands f r
stands_given Spans Limit v r = refl
stands_given Spans Workers v r = refl
stands_given Spans Waves v r = refl
stands_given Spans Journal v r = refl

swap : (a b c : Bool) → (a && (b && c)) ≡ (b && (a && c))
swap true true c = refl
swap true false c = refl
swap false true c = refl
swap false false c = refl

clear_given : (o : Setting) (v : Text) (r : Read) (ps : List Part) → clear (given o v r) ps ≡ (not (is_some (value_in o ps)) && clear r ps)
clear_given o v r [] = refl
clear_given o v r (bare w ∷ ps) = clear_given o v r ps
clear_given o v r (flag f ∷ ps) = ap (λ k. not k && clear (given o v r) ps) (stands_given f o v r) ∙ ap (λ x. not (stands f r) && x) (clear_given o v r ps)
    ∙ swap (not (stands f r)) (not (is_some (value_in o ps))) (clear r ps)
clear_given o v r (valued q w ∷ ps) = ap (λ x. not (is_some x) && clear (given o v r) ps) (value_given q o v r) ∙ go (same o q) (clear_given o v r ps)
  where
    go : (k : Bool) → clear (given o v r) ps ≡ (not (is_some (value_in o ps)) && clear r ps)
        → (not (is_some (cond k (Some v) (value_of q r))) && clear (given o v r) ps)
        ≡ (not (is_some (cond k (Some w) (value_in o ps))) && (not (is_some (value_of q r)) && clear r ps))
    go true ih = refl
    go false ih = ap (λ x. not (is_some (value_of q r)) && x) ih ∙ swap (not (is_some (value_of q r))) (not (is_some (value_in o ps))) (clear r ps)

names_next : (k : Bool) (ns : List Text) (o : Setting) (v : Text) (ps : List Part) → names_ok (k || not (is_empty ns)) ns ps ≡ names_ok k ns (valued o v ∷ ps)
names_next true ns o v ps = refl
names_next false [] o v ps = refl
names_next false (n ∷ ns) o v ps = refl

ok_given : (c : Option Text) (o : Setting) (v : Text) (r : Read) (ps : List Part) → ok c (given o v r) ps ≡ ok c r (valued o v ∷ ps)
ok_given None o v r ps = refl
ok_given (Some c) Limit v r ps = names_next r.closed r.names Limit v ps
ok_given (Some c) Workers v r ps = names_next r.closed r.names Workers v ps
ok_given (Some c) Waves v r ps = names_next r.closed r.names Waves v ps
ok_given (Some c) Journal v r ps = names_next r.closed r.names Journal v ps

filled_given : (c : Text) (ns : List Text) (o : Setting) (v : Text) (r : Read) (ps : List Part) → value_of o r ≡ None → filled c ns (given o v r) ps ≡ filled c ns r (valued o v ∷ ps)
filled_given c ns Limit v r ps none = rw none refl
filled_given c ns Workers v r ps none = rw none refl
filled_given c ns Waves v r ps none = rw none refl
filled_given c ns Journal v r ps none = rw none refl

same_names : (o : Setting) (v : Text) (r : Read) → (given o v r).names ≡ r.names
same_names Limit v r = refl
same_names Workers v r = refl
same_names Waves v r = refl
same_names Journal v r = refl

same_command : (o : Setting) (v : Text) (r : Read) → (given o v r).command ≡ r.command
same_command Limit v r = refl
same_command Workers v r = refl
same_command Waves v r = refl
same_command Journal v r = refl

result_given : (c : Option Text) (o : Setting) (v : Text) (r : Read) (ps : List Part) → value_of o r ≡ None → result c (given o v r) ps ≡ result c r (valued o v ∷ ps)
result_given None o v r ps none = go (bares ps)
  where
    go : (bs : List Text) → by_bares bs (given o v r) ps ≡ by_bares bs r (valued o v ∷ ps)
    go [] = refl
    go (c ∷ ns) = ap (λ t. Some t) (filled_given c ns o v r ps none)
result_given (Some c) o v r ps none = ap (λ ns. Some (filled c (ns ++ bares ps) (given o v r) ps)) (same_names o v r) ∙ ap (λ t. Some t) (filled_given c (r.names ++ bares ps) o v r ps none)

regroup : (x c n k : Bool) (t : Option Texts) → cond ((x && c) && (n && k)) t None ≡ cond (c && ((x && n) && k)) t None
regroup true true n k t = refl
regroup true false n k t = refl
regroup false true n k t = refl
regroup false false n k t = refl

none_of : (v : Option Text) → is_some v ≡ false → v ≡ None
none_of None e = refl
none_of (Some v) e = absurd (true≢false e)

given_expected : (c : Option Text) (o : Setting) (v : Text) (r : Read) (ps : List Part) → is_some (value_of o r) ≡ false → expected c (given o v r) ps ≡ expected c r (valued o v ∷ ps)
given_expected c o v r ps once =
    (λ i. cond (clear_given o v r ps i && (is_once ps && ok_given c o v r ps i)) (result_given c o v r ps (none_of (value_of o r) once) i) None)
    ∙ regroup (not (is_some (value_in o ps))) (clear r ps) (is_once ps) (ok c r (valued o v ∷ ps)) (result c r (valued o v ∷ ps))
    ∙ ap (λ x. cond ((not x && clear r ps) && ((not (is_some (value_in o ps)) && is_once ps) && ok c r (valued o v ∷ ps))) (result c r (valued o v ∷ ps)) None) (sym once)

still_open : (k : Bool) (ns : List Text) → (k ≡ false) × (ns ≡ []) → (k || not (is_empty ns)) ≡ false
still_open k ns h = (λ i. h.0 i || not (is_empty (h.1 i)))

starts_given : (o : Setting) (v : Text) (r : Read) → Starts r → Starts (given o v r)
starts_given Limit v r st none = (still_open r.closed r.names (st none), (st none).1)
starts_given Workers v r st none = (still_open r.closed r.names (st none), (st none).1)
starts_given Waves v r st none = (still_open r.closed r.names (st none), (st none).1)
starts_given Journal v r st none = (still_open r.closed r.names (st none), (st none).1)

-- ---- an option without a value

value_flagged : (q : Setting) (f : Flag) (r : Read) → value_of q (with_flag f r) ≡ value_of q r
value_flagged Limit Spans r = refl
value_flagged Workers Spans r = refl
value_flagged Waves Spans r = refl
value_flagged Journal Spans r = refl

clear_flagged : (f : Flag) (r : Read) (ps : List Part) → clear (with_flag f r) ps ≡ (not (stands_in f ps) && clear r ps)
clear_flagged f r [] = refl
clear_flagged f r (bare w ∷ ps) = clear_flagged f r ps
clear_flagged f r (valued q w ∷ ps) = ap (λ x. not (is_some x) && clear (with_flag f r) ps) (value_flagged q f r) ∙ ap (λ x. not (is_some (value_of q r)) && x) (clear_flagged f r ps)
    ∙ swap (not (is_some (value_of q r))) (not (stands_in f ps)) (clear r ps)
clear_flagged Spans r (flag Spans ∷ ps) = refl

flag_next : (k : Bool) (ns : List Text) (f : Flag) (ps : List Part) → names_ok (k || not (is_empty ns)) ns ps ≡ names_ok k ns (flag f ∷ ps)
flag_next true ns f ps = refl
flag_next false [] f ps = refl
flag_next false (n ∷ ns) f ps = refl

ok_flagged : (c : Option Text) (f : Flag) (r : Read) (ps : List Part) → ok c (with_flag f r) ps ≡ ok c r (flag f ∷ ps)
ok_flagged None f r ps = refl
ok_flagged (Some c) Spans r ps = flag_next r.closed r.names Spans ps

filled_flagged : (c : Text) (ns : List Text) (f : Flag) (r : Read) (ps : List Part) → stands f r ≡ false → filled c ns (with_flag f r) ps ≡ filled c ns r (flag f ∷ ps)
filled_flagged c ns Spans r ps none = rw none refl

keeps_names : (f : Flag) (r : Read) → (with_flag f r).names ≡ r.names
keeps_names Spans r = refl

keeps_command : (f : Flag) (r : Read) → (with_flag f r).command ≡ r.command
keeps_command Spans r = refl

result_flagged : (c : Option Text) (f : Flag) (r : Read) (ps : List Part) → stands f r ≡ false → result c (with_flag f r) ps ≡ result c r (flag f ∷ ps)
result_flagged None f r ps none = go (bares ps)
  where
    go : (bs : List Text) → by_bares bs (with_flag f r) ps ≡ by_bares bs r (flag f ∷ ps)
    go [] = refl
    go (c ∷ ns) = ap (λ t. Some t) (filled_flagged c ns f r ps none)
result_flagged (Some c) f r ps none = ap (λ ns. Some (filled c (ns ++ bares ps) (with_flag f r) ps)) (keeps_names f r) ∙ ap (λ t. Some t) (filled_flagged c (r.names ++ bares ps) f r ps none)

flagged_expected : (c : Option Text) (f : Flag) (r : Read) (ps : List Part) → stands f r ≡ false → expected c (with_flag f r) ps ≡ expected c r (flag f ∷ ps)
flagged_expected c f r ps once =
    (λ i. cond (clear_flagged f r ps i && (is_once ps && ok_flagged c f r ps i)) (result_flagged c f r ps once i) None)
    ∙ regroup (not (stands_in f ps)) (clear r ps) (is_once ps) (ok c r (flag f ∷ ps)) (result c r (flag f ∷ ps))
    ∙ ap (λ x. cond ((not x && clear r ps) && ((not (stands_in f ps) && is_once ps) && ok c r (flag f ∷ ps))) (result c r (flag f ∷ ps)) None) (sym once)

starts_flagged : (f : Flag) (r : Read) → Starts r → Starts (with_flag f r)
starts_flagged Spans r st none = (still_open r.closed r.names (st none), (st none).1)

-- ---- a word

clear_same : (r s : Read) → ((o : Setting) → value_of o r ≡ value_of o s) → ((f : Flag) → stands f r ≡ stands f s) → (ps : List Part) → clear r ps ≡ clear s ps
clear_same r s h k [] = refl
clear_same r s h k (bare w ∷ ps) = clear_same r s h k ps
clear_same r s h k (flag f ∷ ps) = λ i. not (k f i) && clear_same r s h k ps i
clear_same r s h k (valued o v ∷ ps) = λ i. not (is_some (h o i)) && clear_same r s h k ps i

with_command : (w : Text) (r : Read) (ps : List Part) → (r.closed ≡ false) × (r.names ≡ [])
    → expected (Some w) (record r { command = Some w }) ps ≡ expected None r (bare w ∷ ps)
with_command w r ps h = λ i. cond (clear_same (record r { command = Some w }) r by_setting by_flag ps i && (is_once ps && names_ok (h.0 i) (h.1 i) ps)) (Some (filled w (h.1 i ++ bares ps) r ps)) None
  where
    by_flag : (f : Flag) → stands f (record r { command = Some w }) ≡ stands f r
    by_flag Spans = refl

    by_setting : (o : Setting) → value_of o (record r { command = Some w }) ≡ value_of o r
    by_setting Limit = refl
    by_setting Workers = refl
    by_setting Waves = refl
    by_setting Journal = refl

one_more : (ns : List Text) (w : Text) (ps : List Part) → names_ok false (ns ++ w ∷ []) ps ≡ names_ok false ns (bare w ∷ ps)
one_more [] w ps = refl
one_more (n ∷ ns) w ps = refl

never : (a b : Bool) (t : Option Texts) → None ≡ cond (a && (b && false)) t None
never true true t = refl
never true false t = refl
never false b t = refl

with_name : (c w : Text) (r : Read) (ps : List Part) → r.closed ≡ false
    → expected (Some c) (record r { names = r.names ++ w ∷ [] }) ps ≡ expected (Some c) r (bare w ∷ ps)
with_name c w r ps free = λ i. cond (clear_same (record r { names = r.names ++ w ∷ [] }) r by_setting by_flag ps i && (is_once ps && names i)) (Some (filled c (append_assoc r.names (w ∷ []) (bares ps) i) r ps)) None
  where
    by_flag : (f : Flag) → stands f (record r { names = r.names ++ w ∷ [] }) ≡ stands f r
    by_flag Spans = refl

    by_setting : (o : Setting) → value_of o (record r { names = r.names ++ w ∷ [] }) ≡ value_of o r
    by_setting Limit = refl
    by_setting Workers = refl
    by_setting Waves = refl
    by_setting Journal = refl

    names : names_ok r.closed (r.names ++ w ∷ []) ps ≡ names_ok r.closed r.names (bare w ∷ ps)
    names = ap (λ k. names_ok k (r.names ++ w ∷ []) ps) free ∙ one_more r.names w ps ∙ ap (λ k. names_ok k r.names (bare w ∷ ps)) (sym free)

-- ---- all parts

bare_expected : (c : Option Text) (r : Read) (w : Text) (ps : List Part) → r.command ≡ c → Starts r → ((next : Read) → Starts next → run next ps ≡ expected next.command next ps)
    → option_and_then (λ next. run next ps) (named c w r) ≡ expected c r (bare w ∷ ps)
bare_expected None r w ps e st ih = ih (record r { command = Some w }) (λ bad. absurd (none-some w (sym bad))) ∙ with_command w r ps (st e)
bare_expected (Some c) r w ps e st ih = go r.closed refl
  where
    go : (k : Bool) → r.closed ≡ k → option_and_then (λ next. run next ps) (cond k None (Some (record r { names = r.names ++ w ∷ [] }))) ≡ expected (Some c) r (bare w ∷ ps)
    go true shut = never (clear r ps) (is_once ps) _ ∙ ap (λ k. cond (clear r ps && (is_once ps && names_ok k r.names (bare w ∷ ps))) (result (Some c) r (bare w ∷ ps)) None) (sym shut)
    go false free = ih (record r { names = r.names ++ w ∷ [] }) (λ bad. absurd (none-some c (sym bad ∙ e)))
        ∙ ap (λ q. expected q (record r { names = r.names ++ w ∷ [] }) ps) e ∙ with_name c w r ps free

option_expected : (r : Read) (o : Setting) (v : Text) (ps : List Part) → run (given o v r) ps ≡ expected (given o v r).command (given o v r) ps
    → cond (is_some (value_of o r)) None (run (given o v r) ps) ≡ expected r.command r (valued o v ∷ ps)
option_expected r o v ps ih = go (is_some (value_of o r)) refl
  where
    go : (k : Bool) → is_some (value_of o r) ≡ k → cond k None (run (given o v r) ps) ≡ expected r.command r (valued o v ∷ ps)
    go true twice = ap (λ k. cond ((not k && clear r ps) && (is_once (valued o v ∷ ps) && ok r.command r (valued o v ∷ ps))) (result r.command r (valued o v ∷ ps)) None) (sym twice)
    go false once = ih ∙ ap (λ q. expected q (given o v r) ps) (same_command o v r) ∙ given_expected r.command o v r ps once

flag_expected : (r : Read) (f : Flag) (ps : List Part) → run (with_flag f r) ps ≡ expected (with_flag f r).command (with_flag f r) ps
    → cond (stands f r) None (run (with_flag f r) ps) ≡ expected r.command r (flag f ∷ ps)
flag_expected r f ps ih = go (stands f r) refl
  where
    go : (k : Bool) → stands f r ≡ k → cond k None (run (with_flag f r) ps) ≡ expected r.command r (flag f ∷ ps)
    go true twice = ap (λ k. cond ((not k && clear r ps) && (is_once (flag f ∷ ps) && ok r.command r (flag f ∷ ps))) (result r.command r (flag f ∷ ps)) None) (sym twice)
    go false once = ih ∙ ap (λ q. expected q (with_flag f r) ps) (keeps_command f r) ∙ flagged_expected r.command f r ps once

runs : (r : Read) (ps : List Part) → Starts r → run r ps ≡ expected r.command r ps
runs r [] st = at_end r.command r
runs r (valued o v ∷ ps) st = option_expected r o v ps (runs (given o v r) ps (starts_given o v r st))
runs r (flag f ∷ ps) st = flag_expected r f ps (runs (with_flag f r) ps (starts_flagged f r st))
runs r (bare w ∷ ps) st = bare_expected r.command r w ps refl st (λ next s. runs next ps s)

all_clear : (ps : List Part) → clear nothing ps ≡ true
all_clear [] = refl
all_clear (bare w ∷ ps) = all_clear ps
all_clear (flag Spans ∷ ps) = all_clear ps
all_clear (valued Limit v ∷ ps) = all_clear ps
all_clear (valued Workers v ∷ ps) = all_clear ps
all_clear (valued Waves v ∷ ps) = all_clear ps
all_clear (valued Journal v ∷ ps) = all_clear ps

by_texts : (bs : List Text) (ps : List Part) → by_bares bs nothing ps ≡ texts_by bs ps
by_texts [] ps = refl
by_texts (c ∷ ns) ps = refl

at_nothing : (ps : List Part) → run nothing ps ≡ texts_of_parts ps
at_nothing ps = runs nothing ps (λ _. (refl, refl)) ∙ (λ i. cond (all_clear ps i && (is_once ps && is_together ps)) (by_texts (bares ps) ps i) None)

each : (o : Option (List Part)) → option_and_then (run nothing) o ≡ option_and_then texts_of_parts o
each None = refl
each (Some ps) = at_nothing ps

-- the reading word by word is the reading by the rules
pub reading_is : (words : List Text) → plain_texts words ≡ reading words
reading_is words = to_parts nothing words refl ∙ each (parts words)
