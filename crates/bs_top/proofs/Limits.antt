-- The limit of a command is from 1 to 262,144, and its number of waves from 1 to 2^40.
use Rattle.std.proofs.Common.{◌≡◌, ◌≤◌, ℕ, List, Bool, true, false, Option, Some, None, Result, Ok, Err, refl, subst, arith, nat_le, if◌then◌else◌}
use Rattle.std.proofs.lemmas.Bool.Decides.{nat_tests}
use Rattle.std.specs.Prelude.{IfOk, ◌&&◌}
use Rattle.std.specs.Option.{option_and_then, option_map}
use Rattle.bs_num.specs.Decimal.{number_in}
use Rattle.bs_num.specs.declared.fault.NumFault.{NumFault}
use Rattle.bs_num.proofs.RoundTrip.{number_most}
use Rattle.bs_words.specs.Command.{command_of, names_fit, number_if, number_or, numbers_of, settings_fit}
use Rattle.bs_words.specs.Parts.{command_in, reading}
use Rattle.bs_words.specs.Numbers.{at_least, number_from}
use Rattle.bs_words.specs.Plain.{Text}
use Rattle.bs_words.specs.Texts.{Texts}
use Rattle.bs_words.specs.Tuning.{IsTuning, asked_tuning}
use Rattle.bs_words.specs.Verbs.{verb_of}
use Rattle.bs_words.specs.declared.command.Command.{Command}
use Rattle.bs_words.specs.declared.tuning.Tuning.{Tuning}
use Rattle.bs_top.specs.Words.{AreWaves, IsLimit}

-- what went before something that is there
given : {A B : Type 0} (o : Option A) (f : A → Option B) (b : B) → option_and_then f o ≡ Some b → (a : A) × (o ≡ Some a) × (f a ≡ Some b)
given None f b e = absurd (cc)
given (Some a) f b e = (a, refl, e)

then_is : {A : Type 0} (t : Bool) (o : Option A) (a : A) → (if t then o else None) ≡ Some a → o ≡ Some a
then_is true o a e = e
then_is false o a e = absurd (cc)

else_is : {A : Type 0} (t : Bool) (o : Option A) (a : A) → (if t then None else o) ≡ Some a → o ≡ Some a
else_is true o a e = absurd (cc)
else_is false o a e = e

same : {A : Type 0} (a b : A) → Some a ≡ Some b → a ≡ b
same a b e = cc

least : (n m : ℕ) → (if nat_le 1 m then Some m else None) ≡ Some n → 1 ≤ m
least n m e = grind (arith, nat_tests, e)

from_least : (r : Result ℕ NumFault) (n : ℕ) → IfOk r (λ m. m ≤ 262144) → at_least 1 r ≡ Some n → IsLimit n
from_least (Ok m) n most e = subst IsLimit (same m n (then_is (nat_le 1 m) (Some m) n e)) (least n m e, most)
from_least (Err why) n most e = absurd (cc)

of_number : (text : Option (List ℕ)) (n : ℕ) → number_or 262144 1 262144 text ≡ Some n → IsLimit n
of_number None n e = subst IsLimit (same 262144 n e) (omega arith, omega arith)
of_number (Some text) n e = from_least (number_in 262144 text) n (number_most 262144 text) e

-- what holds of a value that is there
holds_of : {A : Type 0} (b a : A) (P : A → Type 0) → Some a ≡ Some b → P a → P b
holds_of b a P e h = subst P (same a b e) h

most_is : (t : Bool) (m : ℕ) (n : Option ℕ) → nat_le 1 m ≡ t → m ≤ 1099511627776 → option_map (λ k. Some k) (if t then Some m else None) ≡ Some n → AreWaves n
most_is true m n is most e = subst AreWaves (same (Some m) n e) (grind (arith, nat_tests, is), most)
most_is false m n is most e = absurd (cc)

from_waves : (r : Result ℕ NumFault) (n : Option ℕ) → IfOk r (λ m. m ≤ 1099511627776) → option_map (λ k. Some k) (at_least 1 r) ≡ Some n → AreWaves n
from_waves (Ok m) n most e = most_is (nat_le 1 m) m n refl most e
from_waves (Err why) n most e = absurd (cc)

of_waves : (text : Option (List ℕ)) (n : Option ℕ) → number_if 1 1099511627776 text ≡ Some n → AreWaves n
of_waves None n e = subst AreWaves (same None n e) tt
of_waves (Some text) n e = from_waves (number_in 1099511627776 text) n (number_most 1099511627776 text) e

of_command : (texts : Texts) (command : Command) → command_of texts ≡ Some command → IsLimit command.limit × AreWaves command.waves
of_command texts command e =
    let verb = given (verb_of texts.command) _ command e in
    let fit = then_is (names_fit verb.0 texts.names && settings_fit verb.0 texts) _ command verb.2 in
    let numbers = given (numbers_of texts) _ command fit in
    let limit = given (number_or 262144 1 262144 texts.limit) _ numbers.0 numbers.1 in
    let workers = given (number_or 1 1 64 texts.workers) _ numbers.0 limit.2 in
    let waves = given (number_if 1 1099511627776 texts.waves) _ numbers.0 workers.2 in
    let is = else_is _ _ numbers.0 waves.2 in (
      holds_of command _ (λ c. IsLimit c.limit) numbers.2 (holds_of numbers.0 _ (λ n. IsLimit n.limit) is (of_number texts.limit limit.0 limit.1)),
      holds_of command _ (λ c. AreWaves c.waves) numbers.2 (holds_of numbers.0 _ (λ n. AreWaves n.waves) is (of_waves texts.waves waves.0 waves.1)),
    )

pub limit_of : (words : List (List ℕ)) (command : Command) → command_in words ≡ Some command → IsLimit command.limit
limit_of words command e = let texts = given (reading words) command_of command e in (of_command texts.0 command texts.2).0

pub waves_of : (words : List (List ℕ)) (command : Command) → command_in words ≡ Some command → AreWaves command.waves
waves_of words command e = let texts = given (reading words) command_of command e in (of_command texts.0 command texts.2).1

-- ---- the numbers of a tuning

from_to : (low high : ℕ) (r : Result ℕ NumFault) (n : ℕ) → IfOk r (λ m. m ≤ high) → at_least low r ≡ Some n → (low ≤ n) × (n ≤ high)
from_to low high (Ok m) n most e = subst (λ n. (low ≤ n) × (n ≤ high)) (same m n (then_is (nat_le low m) (Some m) n e)) (at_low (nat_le low m) refl e, most)
  where
    at_low : (t : Bool) → nat_le low m ≡ t → (if t then Some m else None) ≡ Some n → low ≤ m
    at_low true is e = grind (arith, nat_tests, is)
    at_low false is e = absurd (cc)
from_to low high (Err why) n most e = absurd (cc)

in_range : (low high : ℕ) (text : Text) (n : ℕ) → number_from low high text ≡ Some n → (low ≤ n) × (n ≤ high)
in_range low high text n e = from_to low high (number_in high text) n (number_most high text) e

-- what a mapped thing came of
mapped_from : {A B : Type 0} (o : Option A) (f : A → B) (b : B) → option_map f o ≡ Some b → (a : A) × (o ≡ Some a) × (f a ≡ b)
mapped_from None f b e = absurd (cc)
mapped_from (Some a) f b e = (a, refl, same (f a) b e)

pub tuning_is : (stmt num den : Text) (tuning : Tuning) → asked_tuning stmt num den ≡ Some tuning → IsTuning tuning
tuning_is stmt num den tuning e =
    let s = given (number_from 1 10000 stmt) _ tuning e in
    let d = given (number_from 1 65535 den) _ tuning s.2 in
    let n = mapped_from (number_from 1 d.0 num) _ tuning d.2 in
    let stmt_in = in_range 1 10000 stmt s.0 s.1 in
    let den_in = in_range 1 65535 den d.0 d.1 in
    let num_in = in_range 1 d.0 num n.0 n.1 in
    subst IsTuning n.2 (stmt_in.0, stmt_in.1, num_in.0, num_in.1, den_in.1)
