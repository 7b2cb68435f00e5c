use Rattle.bs_logcheck.proofs.checker.is_sound.Goals as goal

pub returns : goal.returns
returns c = let f = c.in_ok-first_broken.ensures in (λ t. f.sound.0 (c.is_none.ensures.0 t), λ s. c.is_none.ensures.1 (f.sound.1 s))
