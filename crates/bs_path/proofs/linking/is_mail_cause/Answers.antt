use Rattle.std.proofs.Common.{◌≡◌, ◌∙◌, length, slice_index_or, refl, subst, sym, ap, eqb-true, arith}
use Rattle.std.proofs.lemmas.Bool.{and_parts}
use Rattle.bs_log.proofs.Numbers.{mem_at}
use Rattle.bs_log.specs.declared.log.MailRef.{MailRef}
use Rattle.bs_log.specs.Lists.{Mem}
use Rattle.bs_times.specs.Net.{row_of}
use Rattle.bs_path.proofs.linking.is_mail_cause.Goals as goal

same_mail : (m n : MailRef) → m.row ≡ n.row → m.index ≡ n.index → m ≡ n
same_mail m n e f = λ i. record { row = e i; index = f i }

pub returns-then-eq : goal.returns-then-eq
returns-then-eq c =
    let xs = (row_of c.args.log.now c.args.number).mail in
    let k = c.loop-cause.cause-index in
    let d : MailRef = record { row = 0; index = 0 } in
    let e : c.as_slice-cause-items.result.now ≡ xs = c.as_slice-cause-items.ensures ∙ ap (λ r. r.mail) c.row_at.ensures in
    let two = and_parts _ _ (sym c.eq.ensures ∙ c.if-eq.true) in
    let here : slice_index_or c.as_slice-cause-items.result.now k d ≡ c.args.mail = same_mail _ _ (eqb-true _ _ two.0) (eqb-true _ _ two.1) in
    let is : slice_index_or xs k d ≡ c.args.mail = sym (ap (λ ys. slice_index_or ys k d) e) ∙ here in
    (λ t. subst (λ x. Mem x xs) is (mem_at xs k d (omega (arith, c.loop-cause-test.true, ap length e))), λ h. refl)
