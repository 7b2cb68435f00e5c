-- From every world there is a racing wave: the one that recomputes all dirty lines first.
use Rattle.std.proofs.Common.{◌≡◌, ◌==◌, ◌≤◌, ◌<◌, ◌⊎◌, inl, inr, ℕ, zero, suc, true, false, List, [], ◌∷◌, Option, Some, None, refl, ap, subst, ◌∙◌, arith}
use Rattle.std.proofs.lemmas.Bool.{eq-eqb, cond-true, cond-false}
use Rattle.bs_log.specs.declared.log.MailRef.{MailRef}
use Rattle.bs_log.specs.Lists.{Mem}
use Rattle.bs_times.specs.Net.{Net, Starts, Causal}
use Rattle.bs_times.specs.Times.{HasLine, IsTable, IsListed}
use Rattle.bs_times.specs.Racing.{World, IsDirty, Race, Races, begins, recomputes, sets, IsRacingWave, AreRacingWaves, recomputed, same_mail, set_at}
use Rattle.bs_times.proofs.Members.{cases_le, mem_or_not}
use Rattle.bs_times.proofs.Listed.{Decided, dirty_line, dirty_or_not, listed_to, listed_in, in_listed}
use Rattle.bs_times.proofs.Exists.{table_exists}
use Rattle.bs_times.proofs.Racing.{mail_tells}

-- the processors of rows 1 to n.
homes : Net → ℕ → List ℕ
homes net zero = []
homes net (suc n) = net.home (suc n) ∷ homes net n

home_in : (net : Net) (n i : ℕ) → 1 ≤ i → i ≤ n → Mem (net.home i) (homes net n)
unfolding homes
home_in net zero i some most = absurd (omega (arith, some, most))
home_in net (suc n) i some most = go (home_in net n i some) (cases_le i n)
  where
    go : (i ≤ n → Mem (net.home i) (homes net n)) → (i ≤ n) ⊎ (n < i) → Mem (net.home i) (net.home (suc n) ∷ homes net n)
    go ih (inl le) = inr (ih le)
    go ih (inr lt) = let e : i ≡ suc n = omega (arith, lt, most) in inl (ap net.home e)

same_itself : (m : MailRef) → same_mail m m ≡ true
same_itself m =
    let rows : (m.row == m.row) ≡ true = eq-eqb m.row m.row refl in
    let indexes : (m.index == m.index) ≡ true = eq-eqb m.index m.index refl in
    rw (rows, indexes) refl

module _ (net : Net) (c : Causal net) (w : World) where
  -- the dirty ones of these lines were recomputed, and nothing was set.
  record Recomputed (ps : List ℕ) : Type 0 where
    race : Race
    races : Races net w race
    held : race.world.held ≡ w.held
    all : (p : ℕ) → Mem p ps → IsDirty net w p → Mem p race.done

  one_more : (p : ℕ) (ps : List ℕ) → Recomputed ps → Recomputed (p ∷ ps)
  one_more p ps r = go (dirty_or_not net w p) (mem_or_not p r.race.done)
    where
      as_it_is : (IsDirty net w p → Mem p r.race.done) → Recomputed (p ∷ ps)
      as_it_is here = record { race = r.race; races = r.races; held = r.held; all = all }
        where
          all : (q : ℕ) → Mem q (p ∷ ps) → IsDirty net w q → Mem q r.race.done
          all q (inl e) d = rw e (here (rw e at d))
          all q (inr m) d = r.all q m d

      go : Decided (IsDirty net w p) → Mem p r.race.done ⊎ (Mem p r.race.done → ⊥) → Recomputed (p ∷ ps)
      go (inr n) m = as_it_is (λ d. absurd (n d))
      go (inl d) (inl m) = as_it_is (λ d. m)
      go (inl d) (inr n) =
          let t : (s : Starts) × IsTable net r.race.world.held s = table_exists net c r.race.world.held in
          record {
            race = recomputed net p t.0 r.race;
            races = recomputes r.race p t.0 r.races d n (t.1 p);
            held = r.held;
            all = all;
          }
        where
          all : (q : ℕ) → Mem q (p ∷ ps) → IsDirty net w q → Mem q (p ∷ r.race.done)
          all q (inl e) d = inl e
          all q (inr m) d = inr (r.all q m d)

  all_recomputed : (ps : List ℕ) → Recomputed ps
  all_recomputed [] = record { race = record { world = w; done = []; unset = λ m. None }; races = begins; held = refl; all = λ p m. absurd m }
  all_recomputed (p ∷ ps) = one_more p ps (all_recomputed ps)

  -- all dirty lines were recomputed, and the corrections of these messages are set.
  record AllSet (ms : List MailRef) : Type 0 where
    race : Race
    races : Races net w race
    done : (p : ℕ) → IsDirty net w p → Mem p race.done
    none : (m : MailRef) → Mem m ms → race.unset m ≡ None

  one_set : (k : MailRef) (ms : List MailRef) → IsListed net k → AllSet ms → AllSet (k ∷ ms)
  one_set k ms listed r = go (r.race.unset k) refl
    where
      go : (o : Option ℕ) → r.race.unset k ≡ o → AllSet (k ∷ ms)
      go None e = record { race = r.race; races = r.races; done = r.done; none = none }
        where
          none : (m : MailRef) → Mem m (k ∷ ms) → r.race.unset m ≡ None
          none m (inl s) = rw s e
          none m (inr i) = r.none m i
      go (Some tick) e = record { race = set_at k tick r.race; races = sets r.race k tick r.races listed e (r.done (net.goes_to k)); done = r.done; none = none }
        where
          kept : (m : MailRef) → r.race.unset m ≡ None → ((same_mail m k ≡ true) × (m ≡ k)) ⊎ (same_mail m k ≡ false) → (set_at k tick r.race).unset m ≡ None
          kept m old (inl s) = cond-true _ _ _ s.0
          kept m old (inr s) = cond-false _ _ _ s ∙ old

          none : (m : MailRef) → Mem m (k ∷ ms) → (set_at k tick r.race).unset m ≡ None
          none m (inl s) = rw s (cond-true _ _ _ (same_itself k))
          none m (inr i) = kept m (r.none m i) (mail_tells m k)

  all_set : (ms : List MailRef) → ((m : MailRef) → Mem m ms → IsListed net m) → AllSet ms
  all_set [] listed =
      let r = all_recomputed (homes net net.rows) in
      record {
        race = r.race;
        races = r.races;
        done = λ p d. let line : HasLine net p = dirty_line net c w p d in r.all p (subst (λ q. Mem q (homes net net.rows)) line.1.1 (home_in net net.rows line.0 line.1.0.0 line.1.0.1)) d;
        none = λ m i. absurd i;
      }
  all_set (m ∷ ms) listed = one_set m ms (listed m (inl refl)) (all_set ms (λ k i. listed k (inr i)))

  pub some_racing_wave : (v : World) × IsRacingWave net w v
  some_racing_wave =
      let r = all_set (listed_to net net.rows) (λ m. in_listed net net.rows m (omega arith)) in (
        r.race.world,
        record {
          race = r.race;
          races = r.races;
          ends = refl;
          all_done = r.done;
          all_set = λ m listed. r.none m (listed_in net net.rows listed.0 m listed.1.0 listed.1.1 listed.2);
        },
      )

module _ (net : Net) (c : Causal net) where
  worlds_from : World → ℕ → World
  worlds_from w zero = w
  worlds_from w (suc k) = (some_racing_wave net c (worlds_from w k)).0

  each_races : (w : World) → AreRacingWaves net (worlds_from w)
  unfolding worlds_from
  each_races w k = (some_racing_wave net c (worlds_from w k)).1

  starts_there : (w : World) → worlds_from w 0 ≡ w
  unfolding worlds_from
  starts_there w = refl

  pub some_racing_waves : (w : World) → (worlds : ℕ → World) × AreRacingWaves net worlds × (worlds 0 ≡ w)
  some_racing_waves w = (worlds_from w, each_races w, starts_there w)
