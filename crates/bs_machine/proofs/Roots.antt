-- Bytes that are no text are no table.
use Rattle.std.proofs.Common.{◌≡◌, refl, List, ℕ, Some, None, inl, inr}
use Rattle.std.proofs.lemmas.Bool.{cases_Bool}
use Rattle.std.specs.Str.{IsUtf8, is_utf8}
use Rattle.std.proofs.lemmas.Str.{IsUtf8-from_is_utf8, is_utf8-from_IsUtf8}
use Rattle.toml.specs.Data.{Members}
use Rattle.toml.specs.Parse.{parse_document}
use Rattle.bs_machine.specs.File.{root_of}

pub root_of-refused : (bytes : List ℕ) → (IsUtf8 bytes → parse_document bytes ≡ None) → root_of bytes ≡ None
root_of-refused bytes refused = elim (cases_Bool (is_utf8 bytes)) [
  | inl text ↦ rw text (refused (IsUtf8-from_is_utf8 bytes text))
  | inr other ↦ rw other refl
]

pub root_of-taken : (bytes : List ℕ) (root : Members) → IsUtf8 bytes → parse_document bytes ≡ Some root → root_of bytes ≡ Some root
root_of-taken bytes root text taken = rw (is_utf8-from_IsUtf8 bytes text) taken
