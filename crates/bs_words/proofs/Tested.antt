-- The test of a list and its reading agree.
use Rattle.std.proofs.Common.{◌≡◌, ◌∙◌, ◌&&◌, Bool, cond, true, false, not, refl, ap, List, [], ◌∷◌, ◌++◌, Option, Some, None, is_some}
use Rattle.std.specs.Option.{option_map, option_map_or, option_and_then}
use Rattle.bs_words.specs.Plain.{Text, Read, is_empty, is_dashed, setting_of, flag_of, with_flag, flagged, dashed, step, by_waits, begun, named, read_from, ended, value_of, with_value}
use Rattle.bs_words.specs.Seen.{seen_of, has, with_seen, seen_option, seen_flag, seen_dashed, seen_name, seen_word, seen_step, seen_end, seen_from}
use Rattle.bs_words.specs.declared.flag.Flag.{Flag}
use Rattle.bs_words.specs.declared.flag.Flag.TheVariants.{Spans}
use Rattle.bs_words.specs.declared.setting.Setting.{Setting}
use Rattle.bs_words.specs.declared.setting.Setting.TheVariants.{Limit, Workers, Waves, Journal}
use Rattle.bs_words.specs.declared.plain.Seen.{Seen}

map_cond : (k : Bool) (x y : Option Read) (a b : Option Seen) → a ≡ option_map seen_of x → b ≡ option_map seen_of y → cond k a b ≡ option_map seen_of (cond k x y)
map_cond true x y a b e f = e
map_cond false x y a b e f = f

with_same : (o : Setting) (w : Text) (r : Read) → with_seen o (seen_of r) ≡ seen_of (with_value o w r)
with_same Limit w r = refl
with_same Workers w r = refl
with_same Waves w r = refl
with_same Journal w r = refl

has_same : (o : Setting) (r : Read) → has o (seen_of r) ≡ is_some (value_of o r)
has_same Limit r = refl
has_same Workers r = refl
has_same Waves r = refl
has_same Journal r = refl

option_cond : (k j : Bool) (x : Option Seen) (y : Option Read) → k ≡ j → x ≡ option_map seen_of y → cond k None x ≡ option_map seen_of (cond j None y)
option_cond k j x y e h = ap (λ b. cond b None x) e ∙ map_cond j None y None x refl h

option_same : (o : Option Setting) (r : Read) → seen_option o (seen_of r) ≡ option_map seen_of (begun o r)
option_same None r = refl
option_same (Some o) r = option_cond (has o (seen_of r)) (is_some (value_of o r)) _ _ (has_same o r) refl

flag_same : (f : Flag) (r : Read) → seen_flag f (seen_of r) ≡ option_map seen_of (flagged f r)
flag_same Spans r = map_cond r.spans None (Some (with_flag Spans r)) None (Some (seen_of (with_flag Spans r))) refl refl

dashed_same : (q : Option Flag) (w : Text) (r : Read) → seen_dashed q w (seen_of r) ≡ option_map seen_of (dashed q w r)
dashed_same (Some f) w r = flag_same f r
dashed_same None w r = option_same (setting_of w) r

not_empty : (ns : List Text) (w : Text) → true ≡ not (is_empty (ns ++ w ∷ []))
not_empty [] w = refl
not_empty (n ∷ ns) w = refl

name_by : (q : Option Text) (w : Text) (r : Read) → r.command ≡ q → seen_name (seen_of r) ≡ option_map seen_of (named q w r)
name_by None w r e = rw e refl
name_by (Some c) w r e = rw e (map_cond r.closed None _ None _ refl (ap (λ k. Some (record (seen_of r) { command = true; names = k })) (not_empty r.names w)))

name_same : (w : Text) (r : Read) → seen_name (seen_of r) ≡ option_map seen_of (named r.command w r)
name_same w r = name_by r.command w r refl

word_same : (q : Option Setting) (w : Text) (r : Read) → seen_word q w (seen_of r) ≡ option_map seen_of (by_waits q w r)
word_same (Some o) w r = map_cond (is_dashed w) None _ None _ refl (ap (λ s. Some s) (with_same o w r))
word_same None w r = map_cond (is_dashed w) _ _ _ _ (dashed_same (flag_of w) w r) (name_same w r)

step_same : (w : Text) (r : Read) → seen_step w (seen_of r) ≡ option_map seen_of (step w r)
step_same [] r = refl
step_same (b ∷ bs) r = word_same r.waits (b ∷ bs) r

end_same : (r : Read) → seen_end (seen_of r) ≡ is_some (ended r)
end_same r = go (not (is_some r.waits)) (is_some r.command)
  where
    go : (a b : Bool) → (a && b) ≡ is_some (cond (a && b) (Some r) None)
    go true true = refl
    go true false = refl
    go false b = refl

pub from_same : (r : Read) (ws : List Text) → seen_from (seen_of r) ws ≡ is_some (read_from r ws)
from_same r [] = end_same r
from_same r (w ∷ ws) = ap (λ o. option_map_or (λ next. seen_from next ws) o false) (step_same w r) ∙ go (step w r) (λ next. from_same next ws)
  where
    go : (o : Option Read) → ((next : Read) → seen_from (seen_of next) ws ≡ is_some (read_from next ws))
        → option_map_or (λ next. seen_from next ws) (option_map seen_of o) false ≡ is_some (option_and_then (λ next. read_from next ws) o)
    go None ih = refl
    go (Some next) ih = ih next
