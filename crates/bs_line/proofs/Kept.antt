-- Those of the messages that pass a test, with their ticks.
use Rattle.std.proofs.Common.{◌≡◌, ◌<◌, ◌+◌, inl, inr, ◌++◌, ℕ, suc, Bool, true, false, if◌then◌else◌, List, [], ◌∷◌, length, get_or, drop, refl, sym, ap, ◌∙◌, append_assoc, arith}
use Rattle.std.proofs.lemmas.Bool.{true≢false}
use Rattle.std.proofs.lemmas.List.{drop_more}
use Rattle.bs_log.specs.declared.log.MailRef.{MailRef}
use Rattle.bs_log.specs.Rising.{IsLower}
use Rattle.bs_log.specs.Lists.{Mem, InOrder}
use Rattle.bs_num.specs.declared.ticks.Tick.{Tick}
use Rattle.bs_schedule.specs.Plan.{at}
use Rattle.bs_times.specs.Racing.{same_mail}
use Rattle.bs_line.specs.declared.making.Estimate.{Estimate}
use Rattle.bs_line.specs.Making.{kept, kept_one, mails_of, numbers, ticks_of}
use Rattle.bs_line.specs.Places.{AreMails, mail_place}
use Rattle.bs_line.proofs.Ordered.{mail_tests}

abbrev Test : Type 0
Test = MailRef → Bool

abbrev chosen : Test → List MailRef → List Tick → List MailRef
chosen test ms ts = mails_of (kept test ms ts)

kept_from : (test : Test) (ms : List MailRef) (ts : List Tick) (k : MailRef) → Mem k (chosen test ms ts) → Mem k ms × (test k ≡ true)
kept_from test [] ts k is = absurd is
kept_from test (m ∷ ms) [] k is = absurd is
kept_from test (m ∷ ms) (t ∷ ts) k is = go (test m) refl is (kept_from test ms ts k)
  where
    further : Mem k ms × (test k ≡ true) → Mem k (m ∷ ms) × (test k ≡ true)
    further d = (inr d.0, d.1)

    go : (b : Bool) → test m ≡ b → Mem k (mails_of (if b then record { mail = m; tick = t } ∷ kept test ms ts else kept test ms ts)) → (Mem k (chosen test ms ts) → Mem k ms × (test k ≡ true)) → Mem k (m ∷ ms) × (test k ≡ true)
    go true e (inl q) ih = (inl q, ap test q ∙ e)
    go true e (inr n) ih = further (ih n)
    go false e n ih = further (ih n)

kept_has : (test : Test) (ms : List MailRef) (ts : List Tick) (k : MailRef) → length ts ≡ length ms → Mem k ms → test k ≡ true → Mem k (chosen test ms ts)
kept_has test [] ts k l is passes = is
kept_has test (m ∷ ms) [] k l is passes = absurd (omega (arith, l))
kept_has test (m ∷ ms) (t ∷ ts) k l is passes = go (test m) refl is (λ n. kept_has test ms ts k (omega (arith, l)) n passes)
  where
    go : (b : Bool) → test m ≡ b → Mem k (m ∷ ms) → (Mem k ms → Mem k (chosen test ms ts)) → Mem k (mails_of (if b then record { mail = m; tick = t } ∷ kept test ms ts else kept test ms ts))
    go true e (inl q) rest = inl q
    go true e (inr n) rest = inr (rest n)
    go false e (inl q) rest = absurd (true≢false (sym passes ∙ ap test q ∙ e))
    go false e (inr n) rest = rest n

kept_rises : (test : Test) (ms : List MailRef) (ts : List Tick) → InOrder IsLower ms → InOrder IsLower (chosen test ms ts)
kept_rises test [] ts o = tt
kept_rises test (m ∷ ms) [] o = tt
kept_rises test (m ∷ ms) (t ∷ ts) o = go (test m) (kept_rises test ms ts o.1)
  where
    go : (b : Bool) → InOrder IsLower (chosen test ms ts) → InOrder IsLower (mails_of (if b then record { mail = m; tick = t } ∷ kept test ms ts else kept test ms ts))
    go true ih = (λ k is. o.0 k (kept_from test ms ts k is).0, ih)
    go false ih = ih

-- those of the messages of which P holds that pass the test.
pub kept_mails : (P Q : MailRef → Type 0) (test : Test) (ms : List MailRef) (ts : List Tick) → AreMails P ms → length ts ≡ length ms → ((m : MailRef) → test m ≡ true → Q m) → ((m : MailRef) → Q m → test m ≡ true) → AreMails (λ m. P m × Q m) (chosen test ms ts)
kept_mails P Q test ms ts h l there back = record {
  rises = kept_rises test ms ts h.rises;
  all = λ m. (λ d. kept_has test ms ts m l ((h.all m).0 d.0) (back m d.1), λ is. let d = kept_from test ms ts m is in ((h.all m).1 d.0, there m d.1));
}

-- each has its tick.
pub kept_tick : (test : Test) (ms : List MailRef) (ts : List Tick) (k : MailRef) → length ts ≡ length ms → test k ≡ true → at (ticks_of (kept test ms ts)) (mail_place (chosen test ms ts) k) ≡ at (numbers ts) (mail_place ms k)
kept_tick test [] [] k l passes = refl
kept_tick test [] (t ∷ ts) k l passes = absurd (omega (arith, l))
kept_tick test (m ∷ ms) [] k l passes = absurd (omega (arith, l))
kept_tick test (m ∷ ms) (t ∷ ts) k l passes = go (test m) refl (kept_tick test ms ts k (omega (arith, l)) passes)
  where
    here : (b : Bool) → at (ticks_of (kept test ms ts)) (mail_place (chosen test ms ts) k) ≡ at (numbers ts) (mail_place ms k) → at (t.0 ∷ ticks_of (kept test ms ts)) (if b then 0 else suc (mail_place (chosen test ms ts) k)) ≡ at (t.0 ∷ numbers ts) (if b then 0 else suc (mail_place ms k))
    here true ih = refl
    here false ih = ih

    other : (b : Bool) → same_mail m k ≡ b → test m ≡ false → at (ticks_of (kept test ms ts)) (mail_place (chosen test ms ts) k) ≡ at (numbers ts) (mail_place ms k) → at (ticks_of (kept test ms ts)) (mail_place (chosen test ms ts) k) ≡ at (t.0 ∷ numbers ts) (if b then 0 else suc (mail_place ms k))
    other true e off ih = absurd (true≢false (sym passes ∙ sym (ap test (mail_tests.only m k e)) ∙ off))
    other false e off ih = ih

    go : (b : Bool) → test m ≡ b → at (ticks_of (kept test ms ts)) (mail_place (chosen test ms ts) k) ≡ at (numbers ts) (mail_place ms k) → at (ticks_of (if b then record { mail = m; tick = t } ∷ kept test ms ts else kept test ms ts)) (mail_place (mails_of (if b then record { mail = m; tick = t } ∷ kept test ms ts else kept test ms ts)) k) ≡ at (numbers (t ∷ ts)) (mail_place (m ∷ ms) k)
    go true e ih = here (same_mail m k) ih
    go false e ih = other (same_mail m k) refl e ih

-- and it is one of the ticks.
pub kept_among : (test : Test) (ms : List MailRef) (ts : List Tick) (e : Estimate) → Mem e (kept test ms ts) → Mem e.tick ts
kept_among test [] ts e is = absurd is
kept_among test (m ∷ ms) [] e is = absurd is
kept_among test (m ∷ ms) (t ∷ ts) e is = go (test m) is (kept_among test ms ts e)
  where
    go : (b : Bool) → Mem e (if b then record { mail = m; tick = t } ∷ kept test ms ts else kept test ms ts) → (Mem e (kept test ms ts) → Mem e.tick ts) → Mem e.tick (t ∷ ts)
    go true (inl q) ih = inl (ap (λ (x : Estimate). x.tick) q)
    go true (inr n) ih = inr (ih n)
    go false n ih = inr (ih n)

-- the next message is kept where it passes.
pub kept_more : (test : Test) (ms : List MailRef) (ts : List Tick) (k : ℕ) (d : MailRef) (e : Tick) (b : Bool) (list new whole : List Estimate) → k < length ms → length ts ≡ length ms → b ≡ test (get_or ms k d) → list ++ kept test (drop k ms) (drop k ts) ≡ whole → new ≡ list ++ kept_one b (get_or ms k d) (get_or ts k e) → new ++ kept test (drop (k + 1) ms) (drop (k + 1) ts) ≡ whole
kept_more test ms ts k d e b list new whole lt l is h n =
    ap (λ xs. xs ++ kept test (drop (k + 1) ms) (drop (k + 1) ts)) (n ∙ ap (λ c. list ++ kept_one c (get_or ms k d) (get_or ts k e)) is)
    ∙ append_assoc list (kept_one (test (get_or ms k d)) (get_or ms k d) (get_or ts k e)) (kept test (drop (k + 1) ms) (drop (k + 1) ts))
    ∙ ap (λ xs. list ++ xs) (joined (test (get_or ms k d)) ∙ sym (rw (drop_more ms k d lt, drop_more ts k e (omega (arith, lt, l))) refl))
    ∙ h
  where
    joined : (c : Bool) → kept_one c (get_or ms k d) (get_or ts k e) ++ kept test (drop (k + 1) ms) (drop (k + 1) ts) ≡ (if c then record { mail = get_or ms k d; tick = get_or ts k e } ∷ kept test (drop (k + 1) ms) (drop (k + 1) ts) else kept test (drop (k + 1) ms) (drop (k + 1) ts))
    joined true = refl
    joined false = refl
