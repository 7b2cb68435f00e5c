-- The test of histories by themselves as one that can be computed; ClosedTest.antt says what it means (docs/model.md).
use Rattle.std.specs.Prelude.{ℕ, ◌+◌, ◌==◌, Bool, true, ◌&&◌, List, [], ◌∷◌, ◌++◌, count_by, nat_le, length}
use Rattle.std.specs.List.{list_all, list_any}
use Rattle.bs_tree.specs.declared.tree.Path.{Path}
use Rattle.bs_log.specs.declared.history.Origin.{Origin}
use Rattle.bs_log.specs.declared.history.Message.{Message}
use Rattle.bs_log.specs.declared.history.Block.{Block}
use Rattle.bs_log.specs.declared.history.Asked.{Asked}
use Rattle.bs_log.specs.declared.history.WaitAt.{WaitAt}
use Rattle.bs_log.specs.declared.history.History.{History}
use Rattle.bs_log.specs.Size.{size_all}
use Rattle.bs_log.specs.Messages.{same_key, same_path, same_origin, is_below, times_sent}

-- the path of each block is above that of the one before it
abbrev pub rise_after : Path → List Block → Bool
rise_after p [] = true
rise_after p (b ∷ bs) = is_below p b.path && rise_after b.path bs

unfoldable pub rise : List Block → Bool
rise [] = true
rise (b ∷ bs) = rise_after b.path bs

-- a block of this path
abbrev pub has_path : List Block → Path → Bool
has_path bs q = list_any (λ b. same_path b.path q) bs

-- each block cause of these blocks is the path of one before it
unfoldable pub causes_known : List Block → List Block → Bool
causes_known before [] = true
causes_known before (x ∷ xs) = list_all (has_path before) x.after && causes_known (before ++ x ∷ []) xs

-- the message is the one of this number that this block of the chare sends
abbrev pub is_signed : ℕ → Block → ℕ → Message → Bool
is_signed c x k m = (m.origin.chare == c) && (same_path m.origin.path x.path && ((m.origin.index == k) && (m.origin.depth == x.depth)))

-- messages of a block of the chare, numbered from k on
unfoldable pub are_signed : ℕ → Block → ℕ → List Message → Bool
are_signed c x k [] = true
are_signed c x k (m ∷ ms) = is_signed c x k m && are_signed c x (k + 1) ms

-- a message of this origin to the chare
abbrev pub came_from : ℕ → Origin → Message → Bool
came_from c o m = (m.sent.to == c) && same_origin m.origin o

abbrev pub block_sends : ℕ → Origin → Block → Bool
block_sends c o x = list_any (came_from c o) x.sends

abbrev pub history_sends : ℕ → Origin → History → Bool
history_sends c o h = list_any (block_sends c o) h.blocks

unfoldable pub some_send : List History → ℕ → Origin → Bool
some_send hs c o = list_any (history_sends c o) hs

abbrev pub mail_is_sent : List History → ℕ → Block → Bool
mail_is_sent hs c x = list_all (some_send hs c) x.mail

-- one block of the chare c, and one wait
abbrev pub block_is_sound : List History → ℕ → Block → Bool
block_is_sound hs c x = are_signed c x 1 x.sends && mail_is_sent hs c x

abbrev pub is_lacking : List History → ℕ → WaitAt → Bool
is_lacking hs c w = times_sent hs c w.key == 0

unfoldable pub is_sound : List History → ℕ → History → Bool
is_sound hs c h = rise h.blocks && (causes_known [] h.blocks && (list_all (block_is_sound hs c) h.blocks && list_all (is_lacking hs c) h.waits))

unfoldable pub are_sound : List History → ℕ → List History → Bool
are_sound all c [] = true
are_sound all c (h ∷ hs) = is_sound all c h && are_sound all (c + 1) hs

-- no chare asks one key twice
abbrev pub is_asked_once : List Asked → Asked → Bool
is_asked_once all a = nat_le (count_by (λ b. same_key b.key a.key) all) 1

abbrev pub asks_once : History → Bool
asks_once h = list_all (is_asked_once h.asked) h.asked

-- no chare is sent one key twice
abbrev pub is_sent_once : List History → Message → Bool
is_sent_once hs m = nat_le (times_sent hs m.sent.to m.sent.key) 1

abbrev pub block_sends_once : List History → Block → Bool
block_sends_once hs x = list_all (is_sent_once hs) x.sends

abbrev pub sends_once : List History → History → Bool
sends_once hs h = list_all (block_sends_once hs) h.blocks

unfoldable pub keys_are_apart : List History → Bool
keys_are_apart hs = list_all asks_once hs && list_all (sends_once hs) hs

-- the numbers of histories and of their size that are allowed
unfoldable pub is_small : List History → Bool
is_small hs = nat_le 1 (length hs) && (nat_le (length hs) 65536 && nat_le (size_all hs) 262144)

unfoldable pub passes : List History → Bool
passes hs = is_small hs && (are_sound hs 0 hs && keys_are_apart hs)
