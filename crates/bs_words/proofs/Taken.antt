-- A plain list is taken, and its matches are its reading.
use Rattle.std.proofs.Common.{◌≡◌, ◌∙◌, ◌≤◌, ◌+◌, ◌&&◌, ℕ, Bool, true, false, not, refl, sym, ap, subst, arith, List, [], ◌∷◌, length, codes, Option, Some, None, is_some, true≢false}
use Rattle.std.specs.Option.{option_map, option_and_then}
use Rattle.std.specs.List.{fold, list_all}
use Rattle.std.specs.Prelude.{slice_get}
use Rattle.std.specs.Str.{bytes_eq}
use Rattle.std.proofs.lemmas.Option.{option_and_then_some, cond_some}
use Rattle.clap.specs.Lexer.{usize_max}
use Rattle.clap.specs.Walk.{rows_of, with_default, Held, Text, Walk, Row, walked, walk_from, nothing_held, finished, all_of, first_of, one_of}
use Rattle.clap.specs.Takes.{entered_passes, default_passes, settle_passes, walk_passes, is_valid, takes}
use Rattle.clap.specs.Simple.{built, entered, matches_of, HasMatchesOf}
use Rattle.clap.specs.Matches.{found_of}
use Rattle.clap.specs.declared.parser.matches.ArgMatches.{ArgMatches}
use Rattle.std.specs.Option.{unwrap_or}
use Rattle.bs_words.specs.App.{words_app}
use Rattle.bs_words.specs.Plain.{Read, nothing, stands, step, read_from, ended, plain}
use Rattle.bs_words.specs.declared.flag.Flag.{Flag}
use Rattle.bs_words.specs.declared.flag.Flag.TheVariants.{Spans}
use Rattle.bs_words.specs.declared.setting.Setting.TheVariants.{Limit, Workers, Waves, Journal}
use Rattle.bs_words.proofs.Defaults.{flag_text, rows_with, defaults_are, given_row, found_with, one_with}
use Rattle.bs_words.proofs.Uses.{lookup}
use Rattle.bs_words.proofs.Walks.{At, free, flag_name, one, many, waits, Id, setting, command, id_of, uses_of, held_of, walk_at, IsValued, growing, rules, shape, settle_is, settle_ok}
use Rattle.bs_words.proofs.Turns.{Good, turned, place_of, expect, expect_flag, some_names}

-- after all the words
pub record Walked (e : Read) (w : Walk) (words : List Text) : Type 0 where
  pub to : At
  pub good : Good e to
  pub room : growing to ≤ usize_max
  pub ended : ended e ≡ Some e
  pub walk : fold (walked rules []) w words ≡ walk_at to (place_of e.command)
  pub passes : walk_passes shape [] w words ≡ true

ended_is : (r e : Read) → ended r ≡ Some e → r ≡ e
ended_is r e is = (cond_some _ r e is).1

walks : (r e : Read) (s : At) (words : List Text) → Good r s → growing s + length words ≤ usize_max → read_from r words ≡ Some e → Walked e (walk_at s (place_of r.command)) words
unfolding walk_passes
walks r e s [] g room is = subst (λ (x : Read). Walked x (walk_at s (place_of r.command)) []) (ended_is r e is) (record {
  to = s;
  good = g;
  room = omega (arith, room);
  ended = is ∙ ap (λ x. Some x) (sym (ended_is r e is));
  walk = refl;
  passes = refl;
})
walks r e s (w ∷ words) g room is = option_and_then_some (λ next. read_from next words) (step w r) e is (λ next this rest.
    let t = turned r next s w g (omega (arith, room)) this in
    let more = walks next e t.to words t.good (omega (arith, room, t.grows)) rest in
    record {
      to = more.to;
      good = more.good;
      room = more.room;
      ended = more.ended;
      walk = ap (λ x. fold (walked rules []) x words) t.walk ∙ more.walk;
      passes = rw (t.passes, t.walk) more.passes;
    })

-- ---- the end

begins : Good nothing (free [])
begins = record {
  seen = λ i. by_id i;
  flags = λ f. by_flag f;
  names = refl;
  new = tt;
  fits = (refl, λ _. refl);
  ordered = λ _. refl;
}
  where
    by_flag : (f : Flag) → lookup (flag_name f) [] ≡ expect_flag (stands f nothing)
    by_flag Spans = refl

    by_id : (i : Id) → lookup (id_of i) [] ≡ expect i nothing
    by_id (setting Limit) = refl
    by_id (setting Workers) = refl
    by_id (setting Waves) = refl
    by_id (setting Journal) = refl
    by_id command = refl

-- no option waits at the end, and there is a command
valued : (e : Read) (s : At) → Good e s → ended e ≡ Some e → IsValued s
valued e (free us) g is = tt
valued e (one us i v) g is = tt
valued e (many us v vs) g is = tt
valued e (waits us o) g is = absurd (true≢false (sym (cond_some _ e e is).0 ∙ ap (λ q. not (is_some q) && is_some e.command) g.fits.0))

and_false : (k : Bool) → (k && false) ≡ false
and_false true = refl
and_false false = refl

has_command : (e : Read) → ended e ≡ Some e → (c : Text) × (e.command ≡ Some c)
has_command e is = go e.command refl (cond_some _ e e is).0
  where
    go : (q : Option Text) → e.command ≡ q → (not (is_some e.waits) && is_some e.command) ≡ true → (c : Text) × (e.command ≡ Some c)
    go (Some c) this b = (c, this)
    go None this b = absurd (true≢false (sym b ∙ ap (λ q. not (is_some e.waits) && is_some q) this ∙ and_false (not (is_some e.waits))))

finished_is : (e : Read) (s : At) → IsValued s → Good e s → finished rules (held_of s) ≡ rows_with e.spans (uses_of s)
finished_is e s v g = ap (λ (h : Held). fold with_default h.rows rules) (settle_is s v g.new) ∙ defaults_are e.spans (uses_of s) (g.flags Spans)

-- what the tests of the end say of the last place
abbrev after : Walk → List Text → Bool
after w words = entered_passes (built words_app) w.stopped && (walk_passes shape [] (walk_from nothing_held) words && (settle_passes rules false w.held
    && (list_all default_passes rules && is_valid shape (finished rules w.held) (is_some (entered (built words_app) w.stopped)))))

at_end : (e : Read) (s : At) (p : ℕ) (words : List Text) → Good e s → growing s ≤ usize_max → ended e ≡ Some e → walk_passes shape [] (walk_from nothing_held) words ≡ true → after (walk_at s p) words ≡ true
at_end e s p words g room is passes =
    let v = valued e s g is in
    let c = has_command e is in
    let given = given_row e.spans (codes "command") (uses_of s) (c.0 ∷ []) (g.seen command ∙ ap (option_map (λ x. x ∷ [])) c.1) in
    rw (passes, settle_ok s v g.new room, finished_is e s v g, given) refl

from_words : (words : List Text) (e : Read) → length words ≤ usize_max → plain words ≡ Some e → Walked e (walk_at (free []) 1) words
from_words words e room is = walks nothing e (free []) words begins (omega (arith, room)) is

pub takes_plain : (words : List Text) (e : Read) → length words ≤ usize_max → plain words ≡ Some e → takes words_app words ≡ true
takes_plain words e room is =
    let m = from_words words e room is in
    ap (λ w. after w words) m.walk ∙ at_end e m.to (place_of e.command) words m.good m.room m.ended m.passes

-- the first value of an argument, and all of them
abbrev first_value_of : Option (List Text) → Option Text
first_value_of vs = option_and_then (λ v. slice_get v 0) vs

first_by_values : (r : Option Row) → option_and_then (λ (x : Row). slice_get x.values 0) r ≡ first_value_of (option_map (λ (x : Row). x.values) r)
first_by_values None = refl
first_by_values (Some r) = refl

first_of_one : (v : Option Text) → first_value_of (option_map (λ x. x ∷ []) v) ≡ v
first_of_one None = refl
first_of_one (Some v) = refl

pub record IsRead (e : Read) (rs : List Row) : Type 0 where
  pub command : first_of (codes "command") rs ≡ e.command
  pub limit : first_of (codes "limit") rs ≡ e.limit
  pub workers : first_of (codes "workers") rs ≡ e.workers
  pub waves : first_of (codes "waves") rs ≡ e.waves
  pub journal : first_of (codes "journal") rs ≡ e.journal
  pub spans : one_of (codes "spans") rs ≡ Some (flag_text e.spans)
  pub names : all_of (codes "names") rs ≡ some_names e.names

no_flag : (i : Id) → bytes_eq (codes "spans") (id_of i) ≡ false
no_flag (setting Limit) = refl
no_flag (setting Workers) = refl
no_flag (setting Waves) = refl
no_flag (setting Journal) = refl
no_flag command = refl

first_in : (e : Read) (s : At) (i : Id) (v : Option Text) → Good e s → expect i e ≡ option_map (λ x. x ∷ []) v → first_of (id_of i) (rows_with e.spans (uses_of s)) ≡ v
first_in e s i v g is = first_by_values _ ∙ ap first_value_of (found_with e.spans (id_of i) (uses_of s) (no_flag i) ∙ g.seen i ∙ is) ∙ first_of_one v

pub matches_plain : (words : List Text) (e : Read) → length words ≤ usize_max → plain words ≡ Some e → IsRead e (matches_of words_app words)
matches_plain words e room is =
    let m = from_words words e room is in
    let rows_are : matches_of words_app words ≡ rows_with e.spans (uses_of m.to) = ap (λ (w : Walk). finished rules w.held) m.walk ∙ finished_is e m.to (valued e m.to m.good m.ended) m.good in
    subst (IsRead e) (sym rows_are) (record {
      command = first_in e m.to command e.command m.good refl;
      limit = first_in e m.to (setting Limit) e.limit m.good refl;
      workers = first_in e m.to (setting Workers) e.workers m.good refl;
      waves = first_in e m.to (setting Waves) e.waves m.good refl;
      journal = first_in e m.to (setting Journal) e.journal m.good refl;
      spans = one_with e.spans (uses_of m.to) (m.good.flags Spans);
      names = found_with e.spans (codes "names") (uses_of m.to) refl ∙ m.good.names;
    })

-- ---- for the function that parses

pub parsed : (words : List Text) (m : ArgMatches) (e : Read) → HasMatchesOf words_app words m → length words ≤ usize_max → plain words ≡ Some e → IsRead e (rows_of (found_of m))
parsed words m e has room is = subst (IsRead e) (sym (has refl).0) (matches_plain words e room is)

pub is_found : (o : Option Read) → is_some o ≡ true → (e : Read) × (o ≡ Some e)
is_found None h = absurd (true≢false (sym h))
is_found (Some e) h = (e, refl)

pub listed : (ns : List Text) (o : Option (List Text)) → o ≡ some_names ns → unwrap_or o [] ≡ ns
listed [] o e = ap (λ x. unwrap_or x []) e
listed (n ∷ ns) o e = ap (λ x. unwrap_or x []) e
