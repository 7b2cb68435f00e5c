-- One step after another: what each gives is what the whole gives.
use Rattle.std.proofs.Common.{◌≡◌, Option, Some, None, Result, Ok, Err, inl, inr, subst, sym}
use Rattle.std.specs.Prelude.{IfSome, IsErrAnd}
use Rattle.bs_top.specs.declared.stopped.Stopped.{Stopped}
use Rattle.bs_top.specs.declared.stopped.Stopped.TheVariants.{Refused, NoFile, ReadFault, Memory}
use Rattle.bs_top.specs.Step.{Step, Told, and_then}

pub stops : {A B C D : Type 0} (view : C → A) (last : D → B) (first : Step A) (next : A → Step B) (stop : Stopped) → Told view first (Err stop) → Told last (and_then first next) (Err stop)
stops view last first next (Refused fault) h = inl h
stops view last first next NoFile h = inl h
stops view last first next ReadFault h = tt
stops view last first next Memory h = tt

pub goes_on : {A B D : Type 0} (last : D → B) (first : Step A) (next : A → Step B) (a : A) (r : Result D Stopped) → first (Ok a) → Told last (next a) r → Told last (and_then first next) r
goes_on last first next a (Ok b) h k = (a, h, k)
goes_on last first next a (Err (Refused fault)) h k = inr (a, h, k)
goes_on last first next a (Err NoFile) h k = inr (a, h, k)
goes_on last first next a (Err ReadFault) h k = tt
goes_on last first next a (Err Memory) h k = tt

-- where files are told, by what they are
pub each : {A : Type 0} (o q : Option A) (P Q : A → Type 0) → q ≡ o → ((a : A) → P a → Q a) → IfSome q P → IfSome o Q
each {A} o q P Q e f h = go o (subst (λ k. IfSome k P) e h)
  where
    go : (k : Option A) → IfSome k P → IfSome k Q
    go None _ = tt
    go (Some a) p = f a p

-- the same of two facts
pub each_two : {A : Type 0} (o q : Option A) (P Q R : A → Type 0) → q ≡ o → ((a : A) → P a → Q a → R a) → IfSome o P → IfSome q Q → IfSome o R
each_two {A} o q P Q R e f h k = go o h (subst (λ r. IfSome r Q) e k)
  where
    go : (r : Option A) → IfSome r P → IfSome r Q → IfSome r R
    go None _ _ = tt
    go (Some a) p r = f a p r

-- a refusal that is passed on
pub at_stop : {D : Type 0} (P : Result D Stopped → Type 0) (stop : Stopped) (r : Result D Stopped) → IsErrAnd r (λ s. s ≡ stop) → P (Err stop) → P r
at_stop P stop (Ok d) e h = absurd e
at_stop P stop (Err s) e h = subst (λ t. P (Err t)) (sym e) h

pub always : {A : Type 0} (o : Option A) {P : A → Type 0} → ((a : A) → P a) → IfSome o P
always None f = tt
always (Some a) f = f a
