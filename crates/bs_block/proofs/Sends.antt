-- An act that sends, by what it puts together.
use Rattle.std.proofs.Common.{◌≡◌, ℕ, ◌-◌, ◌^◌, List, [], ◌∷◌, ◌++◌, length, map, Option, Result, Ok, Err, refl, sym, ap, subst, ◌∙◌, ◌+◌, true, nat_lt, if◌then◌else◌}
use Rattle.bs_tree.specs.declared.tree.NameId.{NameId}
use Rattle.bs_tree.specs.declared.tree.Expr.{Expr}
use Rattle.bs_tree.specs.declared.tree.Act.{Act}
use Rattle.bs_tree.specs.declared.tree.Act.TheVariants as v
use Rattle.bs_tree.specs.declared.tree.Act.TheOpen.{Act-F}
use Rattle.bs_tree.specs.declared.tree.Act.TheFolds.{fold-roll-Act}
use Rattle.bs_tree.specs.declared.tree.Program.{Program}
use Rattle.bs_log.specs.declared.history.TrapKind.{TrapKind}
use Rattle.bs_log.specs.declared.history.TrapKind.TheVariants.{Target, BytesRange}
use Rattle.bs_log.specs.declared.history.TrapKind.TheVariants as trap
use Rattle.bs_semantics.specs.Layout.{entry_of}
use Rattle.bs_semantics.specs.Value.{value_of}
use Rattle.bs_semantics.specs.Acts.{Parcel, Tally, Done, Acting, act_of, act_step, stepped, with_value, values_of, bytes_value, upto}
use Rattle.bs_block.specs.declared.done.BlockFault.{BlockFault}
use Rattle.bs_block.specs.declared.progress.Progress.{Progress}
use Rattle.bs_block.specs.Env.{ChareCells}
use Rattle.bs_block.specs.Progress.{Leaves, Steps, tally_of}
use Rattle.bs_block.specs.Sending.{with_parcel, parcel_value, sent}

abbrev pub sent_off : Tally → Parcel → Done
sent_off t m = Ok (record t { sends = t.sends ++ m ∷ [] })

next : {A : Type 0} (t : Tally) (x : Result A TrapKind) (f : A → Done) (g : A → Result Parcel TrapKind) → ((a : A) → f a ≡ with_value (g a) (sent_off t)) → with_value x f ≡ with_value (with_parcel x g) (sent_off t)
next t (Ok a) f g h = h a
next t (Err kind) f g h = refl

module _ (p : Program) (this : ℕ) (entry : NameId) (reference : Expr) (args : List Expr) (target : Expr) (bytes : Option Expr) where
  after_step : (t : Tally) → with_value (value_of p this reference t.cells) (λ r. with_value (values_of (map (value_of p this) args) t.cells) (λ vs. with_value (value_of p this target t.cells) (λ c. with_value (bytes_value p this bytes (length args) t.cells) (λ b. with_value (upto (p.chares - 1) Target c) (λ to. with_value (upto (2 ^ 30) BytesRange b) (λ n.
      sent_off t (record { sent = record { to = to; key = record { entry = entry_of p entry; reference = r }; bytes = n; offset = t.cost }; args = vs })))))))
      ≡ with_value (parcel_value p this entry reference args target bytes t.cost t.cells) (sent_off t)
  after_step t =
      next t (value_of p this reference t.cells) _ _ (λ r. next t (values_of (map (value_of p this) args) t.cells) _ _ (λ vs. next t (value_of p this target t.cells) _ _ (λ c. next t (bytes_value p this bytes (length args) t.cells) _ _ (λ b. next t (upto (p.chares - 1) Target c) _ _ (λ to. next t (upto (2 ^ 30) BytesRange b) _ _ (λ n. refl))))))

  pub sends_parcel : (t : Tally) → act_step p this (Act-F.Send entry reference args target bytes) t ≡ stepped t (λ t. with_value (parcel_value p this entry reference args target bytes t.cost t.cells) (sent_off t))
  sends_parcel t = λ i. stepped t (λ t. after_step t i)

-- an act that is a send, where there is a step for it
pub is_send : (p : Program) (this : ℕ) (act : Act) (entry : NameId) (reference : Expr) (args : List Expr) (target : Expr) (bytes : Option Expr) → act ≡ v.Send entry reference args target bytes → (t : Tally) → nat_lt t.steps 100000 ≡ true →
    sent p this entry reference args target bytes (record t { steps = t.steps + 1 }) ≡ act_of p this act t
is_send p this act entry reference args target bytes e t s =
    sym (ap (λ act. act_of p this act t) (e ∙ sym (v.rolls-Send entry reference args target bytes))
    ∙ (ap (λ (f : Acting). f t) (fold-roll-Act Acting (act_step p this) (Act-F.Send entry reference args target bytes))
    ∙ (sends_parcel p this entry reference args target bytes t
    ∙ ap (λ b. if b then sent p this entry reference args target bytes (record t { steps = t.steps + 1 }) else Err trap.Steps) s)))

-- a send after its step leaves what the act leaves
pub send_leaves : (p : Program) (this : ℕ) (act : Act) (entry : NameId) (reference : Expr) (args passed : List Expr) (target : Expr) (bytes : Option Expr) → act ≡ v.Send entry reference args target bytes → passed ≡ args → (e : ChareCells) (old new : Progress) → Steps old new (Ok tt) → (now : Tally) (r : Result Unit BlockFault) →
    Leaves (sent p this entry reference passed target bytes (tally_of e new)) now r → Leaves (act_of p this act (tally_of e old)) now r
send_leaves p this act entry reference args passed target bytes is q e old new s now r h =
    subst (λ d. Leaves d now r) (ap (λ g. sent p this entry reference passed target bytes (tally_of e g)) s.1 ∙ (ap (λ xs. sent p this entry reference xs target bytes (record (tally_of e old) { steps = old.steps + 1 })) q ∙ is_send p this act entry reference args target bytes is (tally_of e old) s.0)) h
