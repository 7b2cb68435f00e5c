-- The test of the numbers with a sign in a log says what it means.
use Rattle.std.proofs.Common.{◌≡◌, inl, inr, ℤ, pos, negsuc, true, List, [], ◌∷◌, subst, sym, ◌^◌}
use Rattle.std.specs.List.{list_all}
use Rattle.std.proofs.lemmas.Bool.{and_parts}
use Rattle.bs_log.specs.declared.history.Sent.{Sent}
use Rattle.bs_log.specs.declared.log.Row.{Row}
use Rattle.bs_log.specs.declared.log.Log.{Log}
use Rattle.bs_log.specs.Valid.{IsWord}
use Rattle.bs_log.specs.ValidTest.{is_word}
use Rattle.bs_log.specs.Lists.{Mem}
use Rattle.bs_log.proofs.Decided.{all_each}
use Rattle.bs_log.proofs.ValidTests.{lt_decides}
use Rattle.std.specs.Bool.{Decides}
use Rattle.bs_logtext.specs.Declared.{HasWords}
use Rattle.bs_logtext.specs.Words.{sends_word, awaits_word, holds_words}

word_is : (z : ℤ) → Decides (is_word z) (IsWord z)
word_is (pos n) = lt_decides n (2 ^ 63)
word_is (negsuc n) = lt_decides n (2 ^ 63)

record RowWords (r : Row) : Type 0 where
  emitted : (v : ℤ) → Mem v r.emits → IsWord v
  sent : (s : Sent) → Mem s r.sends → IsWord s.key.reference

row_words : (r : Row) → holds_words r ≡ true → RowWords r
unfolding holds_words
row_words r h = let both = and_parts _ _ h in record {
  emitted = (all_each is_word IsWord word_is r.emits).0 both.0;
  sent = (all_each sends_word (λ s. IsWord s.key.reference) (λ s. word_is s.key.reference) r.sends).0 both.1;
}

rows_words : (rs : List Row) → list_all holds_words rs ≡ true → (r : Row) → Mem r rs → RowWords r
rows_words [] h r m = absurd m
rows_words (x ∷ xs) h r (inl e) = let both = and_parts _ _ h in subst RowWords (sym e) (row_words x both.0)
rows_words (x ∷ xs) h r (inr m) = let both = and_parts _ _ h in rows_words xs both.1 r m

pub has_words : (log : Log) → list_all holds_words log.rows ≡ true → list_all awaits_word log.waits ≡ true → HasWords log
has_words log h k = record {
  sent = λ r m. (rows_words log.rows h r m).sent;
  emitted = λ r m. (rows_words log.rows h r m).emitted;
  waited = (all_each awaits_word (λ w. IsWord w.key.reference) (λ w. word_is w.key.reference) log.waits).0 k;
}
