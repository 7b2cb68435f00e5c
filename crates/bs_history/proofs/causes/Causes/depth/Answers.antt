use Rattle.std.proofs.Common.{ap, ap₂, sym, ◌∙◌, max}
use Rattle.bs_semantics.specs.Run.{depth_of, greatest}
use Rattle.bs_history.proofs.Paths.{depth_inside}
use Rattle.bs_history.proofs.causes.Causes.depth.Goals as goal

pub returns : goal.returns
returns c =
    c.max.ensures
    ∙ (ap₂ max (c.after_depth.ensures ∙ ap (greatest (λ c. c.depth)) c.as_slice.ensures.value) (c.mail_depth.ensures ∙ ap (greatest (λ o. o.depth)) c.as_slice-2.ensures.value)
    ∙ (sym (depth_inside c.self.inside.after.items c.self.inside.mail.items) ∙ ap depth_of c.self.view_is))
