-- The reading word by word is the reading by parts.
use Rattle.std.proofs.Common.{◌≡◌, ◌∙◌, ◌==◌, ◌&&◌, ◌||◌, ℕ, Bool, cond, true, false, not, refl, sym, ap, List, [], ◌∷◌, ◌++◌, Option, Some, None, is_some, true≢false}
use Rattle.std.specs.Bool.{⊤}
use Rattle.std.specs.Option.{option_and_then}
use Rattle.bs_words.specs.Plain.{Text, Read, step, read_from, ended, value_of, begun, named, by_waits, is_empty, setting_of, flag_of, stands, with_flag, flagged, dashed, with_value as with_given}
use Rattle.bs_words.specs.Texts.{Texts, texts_in}
use Rattle.bs_words.specs.Parts.{Part, valued, flag, by_flag, bare, is_bare, before, parts, with_value}
use Rattle.bs_words.specs.declared.flag.Flag.{Flag}
use Rattle.bs_words.specs.declared.flag.Flag.TheVariants.{Spans}
use Rattle.bs_words.specs.declared.setting.Setting.{Setting}
use Rattle.bs_words.specs.declared.setting.Setting.TheVariants.{Limit, Workers, Waves, Journal}

abbrev pub begin : Setting → Read → Read
begin o r = record r { waits = Some o; closed = r.closed || not (is_empty r.names) }

abbrev pub given : Setting → Text → Read → Read
given o v r = with_given o v (begin o r)

-- ---- first: the reading goes from part to part

abbrev pub run : Read → List Part → Option Texts
run r [] = texts_in r
run r (valued o v ∷ ps) = cond (is_some (value_of o r)) None (run (given o v r) ps)
run r (flag f ∷ ps) = cond (stands f r) None (run (with_flag f r) ps)
run r (bare w ∷ ps) = option_and_then (λ next. run next ps) (named r.command w r)

abbrev pub read_texts : Read → List Text → Option Texts
read_texts r ws = option_and_then texts_in (read_from r ws)

at_end : (r : Read) → r.waits ≡ None → option_and_then texts_in (ended r) ≡ texts_in r
at_end r n = go r.waits n r.command refl
  where
    go : (q : Option Setting) → q ≡ None → (c : Option Text) → r.command ≡ c → option_and_then texts_in (cond (not (is_some q) && is_some r.command) (Some r) None) ≡ texts_in r
    go (Some o) bad c e = absurd (true≢false (ap is_some bad))
    go None _ None e = rw e refl
    go None _ (Some c) e = rw e refl

pub clears : (o : Setting) (v : Text) (r : Read) → (given o v r).waits ≡ None
clears Limit v r = refl
clears Workers v r = refl
clears Waves v r = refl
clears Journal v r = refl

-- what a value comes to
value_run : (r : Read) (o : Setting) (v : Text) (ws : List Text) → is_some (value_of o r) ≡ false
    → read_texts (given o v r) ws ≡ option_and_then (run (given o v r)) (parts ws)
    → option_and_then texts_in (option_and_then (λ next. read_from next ws) (step v (begin o r))) ≡ option_and_then (run r) (with_value (Some o) (v ∷ ws))
value_run r o [] ws once ih = refl
value_run r o (b ∷ bs) ws once ih = go (b == 45)
  where
    each : (ps : Option (List Part)) → option_and_then (run (given o (b ∷ bs) r)) ps ≡ option_and_then (run r) (before (valued o (b ∷ bs)) ps)
    each None = refl
    each (Some ps) = rw once refl

    go : (k : Bool) → option_and_then texts_in (option_and_then (λ next. read_from next ws) (cond k None (Some (given o (b ∷ bs) r))))
        ≡ option_and_then (run r) (cond (not k) (before (valued o (b ∷ bs)) (parts ws)) None)
    go true = refl
    go false = ih ∙ each (parts ws)

twice_run : (r : Read) (o : Setting) (ws : List Text) → is_some (value_of o r) ≡ true → None ≡ option_and_then (run r) (with_value (Some o) ws)
twice_run r o [] twice = refl
twice_run r o (v ∷ ws) twice = go (is_bare v) (parts ws)
  where
    go : (k : Bool) (ps : Option (List Part)) → None ≡ option_and_then (run r) (cond k (before (valued o v) ps) None)
    go false ps = refl
    go true None = refl
    go true (Some ps) = rw twice refl

no_setting : (r : Read) (ws : List Text) → None ≡ option_and_then (run r) (with_value None ws)
no_setting r [] = refl
no_setting r (v ∷ ws) = refl

-- what an option without a value comes to
flag_run : (r : Read) (f : Flag) (ws : List Text) → read_texts (with_flag f r) ws ≡ option_and_then (run (with_flag f r)) (parts ws)
    → option_and_then texts_in (option_and_then (λ next. read_from next ws) (flagged f r)) ≡ option_and_then (run r) (before (flag f) (parts ws))
flag_run r f ws ih = go (stands f r) refl (parts ws) ih
  where
    go : (k : Bool) → stands f r ≡ k → (ps : Option (List Part)) → read_texts (with_flag f r) ws ≡ option_and_then (run (with_flag f r)) ps
        → option_and_then texts_in (option_and_then (λ next. read_from next ws) (cond k None (Some (with_flag f r)))) ≡ option_and_then (run r) (before (flag f) ps)
    go true twice None ih = refl
    go true twice (Some ps) ih = rw twice refl
    go false once None ih = ih
    go false once (Some ps) ih = rw once ih

keeps_waits : (f : Flag) (r : Read) → (with_flag f r).waits ≡ r.waits
keeps_waits Spans r = refl

bare_run : (r : Read) (w : Text) (ws : List Text) (o : Option Read) → named r.command w r ≡ o
    → ((next : Read) → o ≡ Some next → read_texts next ws ≡ option_and_then (run next) (parts ws))
    → option_and_then texts_in (option_and_then (λ next. read_from next ws) o) ≡ option_and_then (run r) (before (bare w) (parts ws))
bare_run r w ws None e ih = go (parts ws)
  where
    go : (ps : Option (List Part)) → None ≡ option_and_then (run r) (before (bare w) ps)
    go None = refl
    go (Some ps) = ap (option_and_then (λ next. run next ps)) (sym e)
bare_run r w ws (Some next) e ih = ih next refl ∙ go (parts ws)
  where
    go : (ps : Option (List Part)) → option_and_then (run next) ps ≡ option_and_then (run r) (before (bare w) ps)
    go None = refl
    go (Some ps) = ap (option_and_then (λ x. run x ps)) (sym e)

named_waits : (r next : Read) (c : Option Text) (w : Text) → named c w r ≡ Some next → next.waits ≡ r.waits
named_waits r next None w e = sym (ap (λ o. waits_or o r.waits) e)
  where
    waits_or : Option Read → Option Setting → Option Setting
    waits_or None d = d
    waits_or (Some x) d = x.waits
named_waits r next (Some c) w e = go r.closed e
  where
    waits_or : Option Read → Option Setting → Option Setting
    waits_or None d = d
    waits_or (Some x) d = x.waits

    go : (k : Bool) → cond k None (Some (record r { names = r.names ++ w ∷ [] })) ≡ Some next → next.waits ≡ r.waits
    go true bad = absurd (true≢false (sym (ap is_some bad)))
    go false is = sym (ap (λ o. waits_or o r.waits) is)

-- what is known of the words after an option's value
abbrev AfterValue : Read → List Text → Type 0
AfterValue r [] = ⊤
AfterValue r (v ∷ rest) = (o : Setting) → read_texts (given o v r) rest ≡ option_and_then (run (given o v r)) (parts rest)

once_run : (r : Read) (o : Setting) (ws : List Text) → AfterValue r ws → is_some (value_of o r) ≡ false
    → option_and_then texts_in (read_from (begin o r) ws) ≡ option_and_then (run r) (with_value (Some o) ws)
once_run r o [] ih once = refl
once_run r o (v ∷ rest) ih once = value_run r o v rest once (ih o)

option_run : (r : Read) (q : Option Setting) (ws : List Text) → AfterValue r ws
    → option_and_then texts_in (option_and_then (λ next. read_from next ws) (begun q r)) ≡ option_and_then (run r) (with_value q ws)
option_run r None ws ih = no_setting r ws
option_run r (Some o) ws ih = go (is_some (value_of o r)) refl
  where
    go : (k : Bool) → is_some (value_of o r) ≡ k → option_and_then texts_in (option_and_then (λ next. read_from next ws) (cond k None (Some (begin o r)))) ≡ option_and_then (run r) (with_value (Some o) ws)
    go true twice = twice_run r o ws twice
    go false once = once_run r o ws ih once

dashed_run : (r : Read) (q : Option Flag) (w : Text) (ws : List Text) → r.waits ≡ None
    → ((next : Read) → next.waits ≡ None → read_texts next ws ≡ option_and_then (run next) (parts ws)) → AfterValue r ws
    → option_and_then texts_in (option_and_then (λ next. read_from next ws) (dashed q w r)) ≡ option_and_then (run r) (by_flag q (parts ws) (with_value (setting_of w) ws))
dashed_run r (Some f) w ws n ih after = flag_run r f ws (ih (with_flag f r) (keeps_waits f r ∙ n))
dashed_run r None w ws n ih after = option_run r (setting_of w) ws after

word_run : (r : Read) (b : ℕ) (bs : Text) (ws : List Text) → r.waits ≡ None
    → ((next : Read) → next.waits ≡ None → read_texts next ws ≡ option_and_then (run next) (parts ws)) → AfterValue r ws
    → read_texts r ((b ∷ bs) ∷ ws) ≡ option_and_then (run r) (parts ((b ∷ bs) ∷ ws))
word_run r b bs ws n ih after = ap (λ q. option_and_then texts_in (option_and_then (λ next. read_from next ws) (by_waits q (b ∷ bs) r))) n ∙ go (b == 45)
  where
    go : (k : Bool) → option_and_then texts_in (option_and_then (λ next. read_from next ws) (cond k (dashed (flag_of (b ∷ bs)) (b ∷ bs) r) (named r.command (b ∷ bs) r)))
        ≡ option_and_then (run r) (cond k (by_flag (flag_of (b ∷ bs)) (parts ws) (with_value (setting_of (b ∷ bs)) ws)) (before (bare (b ∷ bs)) (parts ws)))
    go true = dashed_run r (flag_of (b ∷ bs)) (b ∷ bs) ws n ih after
    go false = bare_run r (b ∷ bs) ws (named r.command (b ∷ bs) r) refl (λ next e. ih next (named_waits r next r.command (b ∷ bs) e ∙ n))

pub to_parts : (r : Read) (ws : List Text) → r.waits ≡ None → read_texts r ws ≡ option_and_then (run r) (parts ws)
to_parts r [] n = at_end r n
to_parts r ([] ∷ ws) n = refl
to_parts r ((b ∷ bs) ∷ []) n = word_run r b bs [] n (λ next no. to_parts next [] no) tt
to_parts r ((b ∷ bs) ∷ v ∷ ws) n = word_run r b bs (v ∷ ws) n (λ next no. to_parts next (v ∷ ws) no) (λ o. to_parts (given o v r) ws (clears o v r))
