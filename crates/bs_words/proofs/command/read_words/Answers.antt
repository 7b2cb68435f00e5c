use Rattle.std.proofs.Common.{◌∙◌, ap, sym, map, string_bytes, option_and_then}
use Rattle.std.proofs.lemmas.Result.{IfOk-weaker, IfErr-weaker}
use Rattle.bs_words.specs.Command.{command_of}
use Rattle.bs_words.proofs.OneByOne.{reading_is}
use Rattle.bs_words.proofs.command.read_words.Goals as goal

pub returns : goal.returns
returns c =
    let same = ap (option_and_then command_of) (sym (reading_is (map string_bytes c.args.words.now))) in
    let call = c.read_word_by_word in
    record {
      ok = IfOk-weaker call.result _ _ (λ m h. same ∙ h) call.ensures.ok;
      err = IfErr-weaker call.result _ _ (λ f h other. same ∙ h other) call.ensures.err;
    }
