-- The link that is found is the first that fits.
use Rattle.std.proofs.Common.{◌≡◌, ◌<◌, ◌==◌, ◌⊎◌, inl, inr, ℕ, true, false, if◌then◌else◌, Option, Some, None, refl, sym, subst, ◌∙◌, eqb-true, eq-eqb, arith}
use Rattle.std.specs.List.{find}
use Rattle.std.proofs.lemmas.Bool.{cases_Bool, true≢false}
use Rattle.bs_log.specs.declared.log.MailRef.{MailRef}
use Rattle.bs_log.specs.Rising.{IsLower}
use Rattle.bs_log.specs.Lists.{InOrder}
use Rattle.bs_times.specs.Net.{Net, Starts, HasRow, Causal}
use Rattle.bs_times.specs.Times.{IsConsistent, IsOn, end_of}
use Rattle.bs_path.specs.declared.links.Link.{Link}
use Rattle.bs_path.specs.declared.links.Link.TheVariants as link
use Rattle.bs_path.specs.Chain.{Fits, IsAskedBefore, IsLinkOf}
use Rattle.bs_path.specs.Ended.{EndsAt, arrives_at, by_cause, by_row, ends_at, first_cause, link_by}
use Rattle.bs_path.proofs.Founds.{find_first, find_none, find_some}
use Rattle.bs_path.proofs.Apart.{just_before, waits, Waits}

pub number_order : (a b : ℕ) → a < b → b < a → ⊥
number_order a b h k = omega arith

pub mail_order : (a b : MailRef) → IsLower a b → IsLower b a → ⊥
mail_order a b (inl h) (inl k) = omega arith
mail_order a b (inl h) (inr k) = omega (arith, k.0)
mail_order a b (inr h) (inl k) = omega (arith, h.0)
mail_order a b (inr h) (inr k) = omega (arith, h.1, k.1)

module _ (net : Net) (c : Causal net) (s : Starts) (table : IsConsistent net s) (i : ℕ) (has : HasRow net i) where
  first_link : s i ≡ 0 → IsLinkOf net s i link.First
  first_link e = record { fits = e; first = λ other f a. none other a }
    where
      none : (other : Link) → IsAskedBefore other link.First → ⊥
      none link.First a = a
      none (link.Processor j) a = a
      none (link.After j) a = a
      none (link.Mail m) a = a

  processor_link : (j : ℕ) → IsOn net (net.home i) j → end_of net s j ≡ s i → IsLinkOf net s i (link.Processor j)
  processor_link j on e = record { fits = (just_before net c s table i j on e, e); first = λ other f a. none other a }
    where
      none : (other : Link) → IsAskedBefore other (link.Processor j) → ⊥
      none link.First a = a
      none (link.Processor k) a = a
      none (link.After k) a = a
      none (link.Mail m) a = a

  module _ (after : InOrder (λ x y. x < y) (net.after i)) (mail : InOrder IsLower (net.mail i)) (alone : EndsAt net s net.rows (net.home i) (s i) None) where
    no_processor : (j : ℕ) → Fits net s i (link.Processor j) → ⊥
    no_processor j f = alone j f.0.there f.0.there.0.1 f.1

    after_link : (x : ℕ) → find (ends_at net s (s i)) (net.after i) ≡ Some x → IsLinkOf net s i (link.After x)
    after_link x e =
        let is = find_some (ends_at net s (s i)) (net.after i) x e in
        record { fits = (is.0, eqb-true _ _ is.1); first = none }
      where
        none : (other : Link) → Fits net s i other → IsAskedBefore other (link.After x) → ⊥
        none link.First f a = a
        none (link.Processor k) f a = no_processor k f
        none (link.After k) f a = find_first (ends_at net s (s i)) (λ x y. x < y) number_order (net.after i) after x e k f.0 (eq-eqb _ _ f.1) a
        none (link.Mail m) f a = a

    mail_link : (m : MailRef) → find (ends_at net s (s i)) (net.after i) ≡ None → find (arrives_at net s (s i)) (net.mail i) ≡ Some m → IsLinkOf net s i (link.Mail m)
    mail_link m gone e =
        let is = find_some (arrives_at net s (s i)) (net.mail i) m e in
        record { fits = (is.0, eqb-true _ _ is.1); first = none }
      where
        none : (other : Link) → Fits net s i other → IsAskedBefore other (link.Mail m) → ⊥
        none link.First f a = a
        none (link.Processor k) f a = no_processor k f
        none (link.After k) f a = find_none (ends_at net s (s i)) (net.after i) gone k f.0 (eq-eqb _ _ f.1)
        none (link.Mail n) f a = find_first (arrives_at net s (s i)) IsLower mail_order (net.mail i) mail m e n f.0 (eq-eqb _ _ f.1) a

    no_link : (s i ≡ 0 → ⊥) → find (ends_at net s (s i)) (net.after i) ≡ None → find (arrives_at net s (s i)) (net.mail i) ≡ None → Waits net c s table i → ⊥
    no_link above gone lost (inl z) = above z
    no_link above gone lost (inr (inl d)) = alone d.0 d.1 d.1.0.1 d.2
    no_link above gone lost (inr (inr (inl d))) = find_none (ends_at net s (s i)) (net.after i) gone d.0 d.1 (eq-eqb _ _ d.2)
    no_link above gone lost (inr (inr (inr d))) = find_none (arrives_at net s (s i)) (net.mail i) lost d.0 d.1 (eq-eqb _ _ d.2)

    cause_link : (s i ≡ 0 → ⊥) → IsLinkOf net s i (first_cause net s i (s i))
    cause_link above = go (find (ends_at net s (s i)) (net.after i)) (find (arrives_at net s (s i)) (net.mail i)) refl refl
      where
        go : (a : Option ℕ) (b : Option MailRef) → find (ends_at net s (s i)) (net.after i) ≡ a → find (arrives_at net s (s i)) (net.mail i) ≡ b → IsLinkOf net s i (by_cause a b)
        go (Some x) b e f = after_link x e
        go None (Some m) e f = mail_link m e f
        go None None e f = absurd (no_link above e f (waits net c s table i has))

  module _ (after : InOrder (λ x y. x < y) (net.after i)) (mail : InOrder IsLower (net.mail i)) where
    above_link : (j : Option ℕ) → EndsAt net s net.rows (net.home i) (s i) j → (s i ≡ 0 → ⊥) → IsLinkOf net s i (by_row j (first_cause net s i (s i)))
    above_link (Some j) ends above = processor_link j ends.0 ends.1
    above_link None ends above = cause_link after mail ends above

    pub link_is : (j : Option ℕ) → EndsAt net s net.rows (net.home i) (s i) j → IsLinkOf net s i (link_by net s i j)
    link_is j ends = go (cases_Bool (s i == 0))
      where
        to : {b : _} → (s i == 0) ≡ b → IsLinkOf net s i (if b then link.First else by_row j (first_cause net s i (s i))) → IsLinkOf net s i (link_by net s i j)
        to {b} q l = subst (λ t. IsLinkOf net s i (if t then link.First else by_row j (first_cause net s i (s i)))) (sym q) l

        go : ((s i == 0) ≡ true) ⊎ ((s i == 0) ≡ false) → IsLinkOf net s i (link_by net s i j)
        go (inl q) = to q (first_link (eqb-true _ _ q))
        go (inr q) = to q (above_link j ends (λ z. true≢false (sym (eq-eqb _ _ z) ∙ q)))
