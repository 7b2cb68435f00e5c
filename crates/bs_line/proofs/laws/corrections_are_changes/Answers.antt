use Rattle.bs_line.proofs.Changes.{sound, whole}
use Rattle.bs_line.proofs.laws.corrections_are_changes.Goals as goal

pub returns-clause-sound : goal.returns-clause-sound
returns-clause-sound c = sound

pub returns-clause-whole : goal.returns-clause-whole
returns-clause-whole c = whole
