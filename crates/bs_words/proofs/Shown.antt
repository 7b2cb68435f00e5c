-- What the parser makes of some lists, plain or not.
use Rattle.std.proofs.Common.{◌≡◌, refl, [], ◌∷◌, Some, codes, true}
use Rattle.clap.specs.Walk.{all_of}
use Rattle.clap.specs.Simple.{matches_of}
use Rattle.clap.specs.Words.{takes, fault_of, is_simple_and_free}
use Rattle.clap.specs.declared.error.kind.ErrorKind.TheVariants as kind
use Rattle.clap.proofs.OnLiterals.{clap_on_literals}
use Rattle.bs_words.specs.App.{words_app}

free : is_simple_and_free words_app ≡ true
free = refl

-- lists that are not plain, and that the parser takes
attached : takes words_app (codes "run" ∷ codes "--waves=3" ∷ []) ≡ true
unfolding clap_on_literals
attached = refl

trailing : takes words_app (codes "run" ∷ codes "--" ∷ codes "-x" ∷ []) ≡ true
unfolding clap_on_literals
trailing = refl

hyphen : takes words_app (codes "run" ∷ codes "-" ∷ []) ≡ true
unfolding clap_on_literals
hyphen = refl

split : all_of (codes "names") (matches_of words_app (codes "predict" ∷ codes "L" ∷ codes "--waves" ∷ codes "3" ∷ codes "M" ∷ [])) ≡ Some (codes "L" ∷ codes "M" ∷ [])
unfolding clap_on_literals
split = refl

-- and lists that it refuses
twice : fault_of words_app (codes "run" ∷ codes "--waves" ∷ codes "3" ∷ codes "--waves" ∷ codes "4" ∷ []) ≡ kind.ArgumentConflict ∷ []
unfolding clap_on_literals
twice = refl

none : fault_of words_app [] ≡ kind.MissingRequiredArgument ∷ []
unfolding clap_on_literals
none = refl

other : fault_of words_app (codes "-h" ∷ []) ≡ kind.UnknownArgument ∷ []
unfolding clap_on_literals
other = refl
