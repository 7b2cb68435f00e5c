-- Whether the numbers with a sign in a log have 64 bits, as a test that can be computed; Declared.antt says what it means.
use Rattle.std.specs.Prelude.{Bool, ◌&&◌}
use Rattle.std.specs.List.{list_all}
use Rattle.bs_log.specs.declared.history.Sent.{Sent}
use Rattle.bs_log.specs.declared.log.Row.{Row}
use Rattle.bs_log.specs.declared.log.WaitRow.{WaitRow}
use Rattle.bs_log.specs.ValidTest.{is_word}

-- the reference that is sent
abbrev pub sends_word : Sent → Bool
sends_word s = is_word s.key.reference

-- the reference that is waited for
abbrev pub awaits_word : WaitRow → Bool
awaits_word w = is_word w.key.reference

-- each value that a row emits, and each reference that it sends
unfoldable pub holds_words : Row → Bool
holds_words r = list_all is_word r.emits && list_all sends_word r.sends
