use Rattle.std.proofs.Common.{option_and_then, ◌∙◌, ◌≤◌, ap, sym, map, length, string_bytes, codes, option_map, rules}
use Rattle.std.proofs.lemmas.List.{length-map}
use Rattle.clap.specs.Lexer.{usize_max}
use Rattle.clap.specs.Words.{found_of, one_text}
use Rattle.clap.proofs.WalkLemmas.{first_value-rows, one_text-rows}
use Rattle.bs_words.specs.Texts.{texts_in}
use Rattle.bs_words.proofs.Texts.{texts_from}
use Rattle.bs_words.specs.Plain.{plain}
use Rattle.bs_words.proofs.Defaults.{flag_is}
use Rattle.bs_words.proofs.Taken.{parsed, is_found, listed}
use Rattle.bs_words.proofs.reading.parse.Goals as goal

pub returns : goal.returns
returns c =
    let words = map string_bytes c.args.words.now in
    let e = is_found (plain words) c.requires in
    let room : length words ≤ usize_max = rw (length-map c.args.words.now string_bytes) (search rules) in
    let f = found_of c.in-Ok.matches in
    let read = parsed words c.in-Ok.matches e.0 c.in-Ok.ensures.ok room e.1 in
    ap (option_and_then texts_in) e.1 ∙ texts_from e.0 (record {
      command = c.in-Some.word;
      names = c.in_ok-names_in.field-0;
      limit = c.get_str-2.result;
      workers = c.get_str-3.result;
      waves = c.get_str-4.result;
      journal = c.get_str-5.result;
      spans = c.get_flag.result;
    }) (record {
      command = sym read.command ∙ sym (first_value-rows f (codes "command")) ∙ sym c.get_str.ensures ∙ ap (option_map (λ s. s.now)) c.in-Some.is;
      names = c.in_ok-names_in.ensures ∙ listed e.0.names _ read.names;
      limit = c.get_str-2.ensures ∙ first_value-rows f (codes "limit") ∙ read.limit;
      workers = c.get_str-3.ensures ∙ first_value-rows f (codes "workers") ∙ read.workers;
      waves = c.get_str-4.ensures ∙ first_value-rows f (codes "waves") ∙ read.waves;
      journal = c.get_str-5.ensures ∙ first_value-rows f (codes "journal") ∙ read.journal;
      spans = flag_is e.0.spans c.get_flag.result (one_text f (codes "spans")) (one_text-rows f (codes "spans") ∙ read.spans) c.get_flag.ensures.value c.get_flag.ensures.other;
    })
