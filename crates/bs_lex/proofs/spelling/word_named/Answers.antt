use Rattle.std.proofs.Common.{◌≡◌, refl, arith}
use Rattle.std.specs.Prelude.{codes}
use Rattle.std.proofs.lemmas.Slice.Eq.{text_from_reads}
use Rattle.bs_lex.proofs.spelling.word_named.Goals as goal

pub returns-in-while : goal.returns-in-while
returns-in-while c =
    let is : c.args.name.now ≡ codes "while" = text_from_reads c.args.name.now (codes "while") (omega arith) (omega arith, (omega arith, (omega arith, (omega arith, (omega arith, tt))))) in
    rw is refl

pub returns-in-bytes : goal.returns-in-bytes
returns-in-bytes c =
    let is : c.args.name.now ≡ codes "bytes" = text_from_reads c.args.name.now (codes "bytes") (omega arith) (omega arith, (omega arith, (omega arith, (omega arith, (omega arith, tt))))) in
    rw is refl

pub returns-in-chares : goal.returns-in-chares
returns-in-chares c =
    let is : c.args.name.now ≡ codes "chares" = text_from_reads c.args.name.now (codes "chares") (omega arith) (omega arith, (omega arith, (omega arith, (omega arith, (omega arith, (omega arith, tt)))))) in
    rw is refl

pub returns-in-serial : goal.returns-in-serial
returns-in-serial c =
    let is : c.args.name.now ≡ codes "serial" = text_from_reads c.args.name.now (codes "serial") (omega arith) (omega arith, (omega arith, (omega arith, (omega arith, (omega arith, (omega arith, tt)))))) in
    rw is refl

pub returns-in-repeat : goal.returns-in-repeat
returns-in-repeat c =
    let is : c.args.name.now ≡ codes "repeat" = text_from_reads c.args.name.now (codes "repeat") (omega arith) (omega arith, (omega arith, (omega arith, (omega arith, (omega arith, (omega arith, tt)))))) in
    rw is refl

pub returns-in-overlap : goal.returns-in-overlap
returns-in-overlap c =
    let is : c.args.name.now ≡ codes "overlap" = text_from_reads c.args.name.now (codes "overlap") (omega arith) (omega arith, (omega arith, (omega arith, (omega arith, (omega arith, (omega arith, (omega arith, tt))))))) in
    rw is refl
