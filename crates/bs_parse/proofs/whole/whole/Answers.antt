use Rattle.std.proofs.Common.{length, map, drop, Ok, sym, ap, arith, inl}
use Rattle.std.proofs.lemmas.List.{length-map}
use Rattle.bs_parse.specs.Seen.{terminal, reason_of}
use Rattle.bs_parse.proofs.Ends.{left_of_read, left_of_stop, read_program, read_only, trailing_none, trailing_fault, stop_none, stop_fault}
use Rattle.bs_parse.proofs.whole.whole.Goals as goal

pub overflow_sub-result : goal.overflow_sub-result
overflow_sub-result c =
    omega (arith, left_of_read (map terminal c.args.tokens.now) c.new-cursor.result c.program.new.tokens c.new-cursor.ensures c.in-Ok.parts c.in-Ok.ensures.0, c.left.ensures, length-map c.args.tokens.now terminal)

pub overflow_sub-result-in-Err-At : goal.overflow_sub-result-in-Err-At
overflow_sub-result-in-Err-At c =
    let h = rw c.in-Err-At.field-0-is at c.in-Err-At.ensures in
    omega (arith, left_of_stop (map terminal c.args.tokens.now) c.new-cursor.result c.program.new.tokens c.new-cursor.ensures (reason_of c.in-Err-At.reason) h, c.left-in-Err-At.ensures, length-map c.args.tokens.now terminal)

pub returns-in-None-clause-found : goal.returns-in-None-clause-found
returns-in-None-clause-found c = read_program (map terminal c.args.tokens.now) c.new-cursor.result c.program.new.tokens c.new-cursor.ensures c.in-Ok.parts c.in-Ok.ensures.0 c.in-None.ensures

pub returns-in-None-clause-only : goal.returns-in-None-clause-only
returns-in-None-clause-only c = λ q s. inl (ap Ok (read_only (map terminal c.args.tokens.now) c.new-cursor.result c.program.new.tokens c.new-cursor.ensures c.in-Ok.parts q c.in-Ok.ensures.0 s))

pub returns-in-Some-clause-only : goal.returns-in-Some-clause-only
returns-in-Some-clause-only c = λ q s. absurd (trailing_none (map terminal c.args.tokens.now) c.new-cursor.result c.program.new.tokens c.new-cursor.ensures c.in-Ok.parts q (terminal c.in-Some.field-0) (drop 1 c.program.new.tokens.rest) c.in-Ok.ensures.0 c.in-Some.ensures s)

pub returns-in-Some-clause-fault : goal.returns-in-Some-clause-fault
returns-in-Some-clause-fault c =
    trailing_fault (map terminal c.args.tokens.now) c.new-cursor.result c.program.new.tokens c.new-cursor.ensures c.in-Ok.parts (terminal c.in-Some.field-0) (drop 1 c.program.new.tokens.rest) (length c.args.tokens.now) c.left.result
    c.in-Ok.ensures.0 c.in-Some.ensures (sym (length-map c.args.tokens.now terminal)) c.left.ensures

pub returns-in-Err-At-clause-only : goal.returns-in-Err-At-clause-only
returns-in-Err-At-clause-only c = λ q s.
    absurd (let h = rw c.in-Err-At.field-0-is at c.in-Err-At.ensures in
    stop_none (map terminal c.args.tokens.now) c.new-cursor.result c.program.new.tokens c.new-cursor.ensures (reason_of c.in-Err-At.reason) q h s)

pub returns-in-Err-At-clause-fault : goal.returns-in-Err-At-clause-fault
returns-in-Err-At-clause-fault c =
    let h = rw c.in-Err-At.field-0-is at c.in-Err-At.ensures in
    stop_fault (map terminal c.args.tokens.now) c.new-cursor.result c.program.new.tokens c.new-cursor.ensures (reason_of c.in-Err-At.reason) (length c.args.tokens.now) c.left-in-Err-At.result h (sym (length-map c.args.tokens.now terminal)) c.left-in-Err-At.ensures
