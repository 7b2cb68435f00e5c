use Rattle.std.proofs.Common.{◌≡◌, ◌∙◌, ◌≤◌, ap, subst, map, length, string_bytes, true, rules}
use Rattle.std.proofs.lemmas.Result.{IfOk-weaker, IfErr-weaker}
use Rattle.std.proofs.lemmas.List.{length-map}
use Rattle.clap.specs.Lexer.{usize_max}
use Rattle.clap.specs.Words.{HasMatchesOf, takes, app_of}
use Rattle.bs_words.specs.Plain.{plain}
use Rattle.bs_words.proofs.Taken.{takes_plain, is_found}
use Rattle.bs_words.proofs.app.matches_of_plain.Goals as goal

pub returns : goal.returns
returns c =
    let words = map string_bytes c.args.words.now in
    let e = is_found (plain words) c.requires.plain in
    let room : length words ≤ usize_max = rw (length-map c.args.words.now string_bytes) (search rules) in
    let taken : takes (app_of c.args.parser) words ≡ true = ap (λ a. takes a words) c.requires.parser ∙ takes_plain words e.0 room e.1 in
    let parse = c.try_get_matches_from in
    record {
      ok = IfOk-weaker parse.result _ _ (λ m h. subst (λ a. HasMatchesOf a words m) c.requires.parser h) parse.ensures.matches;
      err = IfErr-weaker parse.result _ _ (λ x h. h taken) parse.ensures.passes;
    }
