use Rattle.std.proofs.Common.{ap, subst, ◌∙◌}
use Rattle.bs_semantics.specs.Run.{held, take_mail, with_mail}
use Rattle.bs_history.specs.Waiting.{AreHeld}
use Rattle.bs_history.specs.Ground.{mail_of, program_of}
use Rattle.bs_history.proofs.Asked.{taken}
use Rattle.bs_history.proofs.waiting.take_held.Goals as goal

pub returns-in_ok-add_messages-in-Some : goal.returns-in_ok-add_messages-in-Some
returns-in_ok-add_messages-in-Some c =
    let g = c.args.ground.now in
    let s = c.args.state.now in
    let ws = c.args.waits.now in
    let h = subst (λ o. AreHeld o (held (mail_of g) c.args.keys.now)) c.in-Some.is c.in_ok-held_messages.ensures in
    let v = c.take_arguments.ensures.taken ∙ ap (λ ms. record s.env { cells = take_mail (program_of g) ws ms s.env.cells }) c.as_slice.ensures in
    let k = c.in_ok-add_messages-in-Some.ensures ∙ ap (λ ms. with_mail ms s.causes) c.into_vec.ensures in
    taken g ws c.args.keys.now c.args.trail.now s (record { env = c.take_arguments.new.env; causes = c.add_messages.new.self }) c.requires.ready c.in-Some.messages h v k c.take_arguments.ensures.made
