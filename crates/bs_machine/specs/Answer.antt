-- What a step of reading a machine answers: a value, or why the machine is refused.
use Rattle.std.specs.Prelude.{Result, Ok, Err}
use Rattle.bs_machine.specs.declared.fault.MachineFault.{MachineFault}

abbrev pub Answer : Type 0 → Type 0
Answer A = Result A MachineFault

-- one step after another: the first refusal stays
infixl 10 ◌>>=◌
abbrev pub ◌>>=◌ : {A B : Type 0} → Answer A → (A → Answer B) → Answer B
Ok x >>= next = next x
Err fault >>= next = Err fault
