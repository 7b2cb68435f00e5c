-- A chare with the fields of another one is that chare.
use Rattle.std.proofs.Common.{◌≡◌, ◌≤◌, ◌<◌, ℕ, Bool, List, refl, sym, ◌∙◌, ap}
use Rattle.std.specs.Coded.{×_prop, Π_prop, le_prop, Coded-set, coded_ℕ}
use mathlib.Core.Path.{PathP}
use mathlib.Core.Equiv.{id_equiv}
use mathlib.Core.HLevel.{is_prop→PathP}
use Rattle.bs_log.specs.Size.{size}
use Rattle.bs_log.specs.Lists.{Apart}
use Rattle.bs_log.specs.Messages.{one_asked}
use Rattle.bs_log.specs.declared.history.Message.{Message}
use Rattle.bs_log.specs.declared.history.History.{History}
use Rattle.bs_match.specs.Mail.{lookup}
use Rattle.bs_chare.specs.declared.chare.Chare.{Chare}
use Rattle.bs_chare.specs.Asked.{apart_prop}
use Rattle.bs_chare.specs.Chare.{HoldsProper, told}

-- a history that is the one that is told
abbrev Told : History → Type 0
Told h = (x : History) × (x ≡ h)

told_prop : (h : History) → IsProp (Told h)
told_prop h a b = let c = (id_equiv History).1 h in c.1 a ∙ sym (c.1 b)

pub copied : (c : Chare) (mail : List Message) (history : History) → mail ≡ c.mail
    → (is_chare : c.number < c.accepted.now.program.chares) (limit_in_range : (1 ≤ c.limit) × (c.limit ≤ 262144)) (is_proper : HoldsProper c.number (lookup mail))
    → (is_told : history ≡ told c.begun c.accepted.now.program c.limit c.number (lookup mail)) (is_small : size history ≤ c.limit) (asks_once : Apart one_asked history.asked)
    → record { accepted = c.accepted; number = c.number; limit = c.limit; mail = mail; begun = c.begun; history = history; is_chare = is_chare; limit_in_range = limit_in_range; is_proper = is_proper; is_told = is_told; is_small = is_small; asks_once = asks_once } ≡ c
copied c mail history e is_chare limit_in_range is_proper is_told is_small asks_once =
    let tells : List Message → History = λ ms. told c.begun c.accepted.now.program c.limit c.number (lookup ms) in
    let p : PathP (λ j. Told (tells (e j))) (history, is_told) (c.history, c.is_told) = is_prop→PathP (λ j. Told (tells (e j))) (λ j. told_prop (tells (e j))) (history, is_told) (c.history, c.is_told) in
    λ j. record {
      accepted = c.accepted;
      number = c.number;
      limit = c.limit;
      mail = e j;
      begun = c.begun;
      history = (p j).0;
      is_chare = is_prop→PathP (λ j. c.number < c.accepted.now.program.chares) (λ j. le_prop) is_chare c.is_chare j;
      limit_in_range = is_prop→PathP (λ j. (1 ≤ c.limit) × (c.limit ≤ 262144)) (λ j. ×_prop le_prop le_prop) limit_in_range c.limit_in_range j;
      is_proper = is_prop→PathP (λ j. HoldsProper c.number (lookup (e j))) (λ j. Π_prop (λ k. Π_prop (λ m. Π_prop (λ q. ×_prop (Coded-set coded_ℕ _ _) le_prop)))) is_proper c.is_proper j;
      is_told = (p j).1;
      is_small = is_prop→PathP (λ j. size (p j).0 ≤ c.limit) (λ j. le_prop) is_small c.is_small j;
      asks_once = is_prop→PathP (λ j. Apart one_asked (p j).0.asked) (λ j. apart_prop (p j).0.asked) asks_once c.asks_once j;
    }
