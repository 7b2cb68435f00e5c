-- The least rule that a line of a log breaks, as one that can be computed; Rules.antt says what it means.
use Rattle.std.specs.Prelude.{ℕ, ◌+◌, ◌==◌, Bool, true, false, ◌&&◌, not, List, [], ◌∷◌, Option, Some, None, nat_le, nat_lt}
use Rattle.bs_log.specs.declared.history.Sent.{Sent}
use Rattle.bs_log.specs.declared.log.MailRef.{MailRef}
use Rattle.bs_log.specs.declared.log.Row.{Row}
use Rattle.bs_log.specs.declared.log.TrapRow.{TrapRow}
use Rattle.bs_log.specs.declared.log.WaitRow.{WaitRow}
use Rattle.bs_log.specs.declared.log.Log.{Log}
use Rattle.bs_log.specs.Valid.{deepest}
use Rattle.bs_log.specs.ValidTest.{is_block_cause, is_mail_cause, ref_is_lower, offset_is_up_to, trap_is_lower, wait_is_up_to}
use Rattle.bs_logcheck.specs.declared.rule.LogRule.{LogRule}
use Rattle.bs_logcheck.specs.declared.rule.LogRule.TheVariants.{BadReference, BadDepth, TwiceUsed}
use Rattle.bs_logcheck.specs.declared.place.Place.{Place}
use Rattle.bs_logcheck.specs.Lines.{Line, RowLine, AfterLine, MailLine, EmitLine, SendLine, TrapLine, WaitLine}
use Rattle.bs_logcheck.specs.Places.{goal_of, spot_of, nowhere, with_places, places}

-- one before this one, if there is one, passes beside it
abbrev pub follows : {A : Type 0} → (A → A → Bool) → Option A → A → Bool
follows r None x = true
follows r (Some y) x = r y x

-- a rule where its test fails, and otherwise what comes next
abbrev pub unless : Bool → LogRule → Option LogRule → Option LogRule
unless true rule next = next
unless false rule next = Some rule

unfoldable pub row_refers : Log → Option ℕ → Row → Bool
row_refers l before r = nat_lt r.chare l.chares && follows nat_le before r.chare

abbrev pub row_fault : Log → Option ℕ → Row → Option LogRule
row_fault l before r = unless (row_refers l before r) BadReference (unless (r.depth == deepest l r + 1) BadDepth None)

unfoldable pub after_refers : Log → ℕ → Row → Option ℕ → ℕ → Bool
after_refers l k r before n = is_block_cause l k r.chare n && follows nat_lt before n

abbrev pub after_fault : Log → ℕ → Row → Option ℕ → ℕ → Option LogRule
after_fault l k r before n = unless (after_refers l k r before n) BadReference None

unfoldable pub mail_refers : Log → Row → Option MailRef → MailRef → Bool
mail_refers l r before m = is_mail_cause l r.chare m && follows ref_is_lower before m

abbrev pub mail_fault : Log → Row → Option MailRef → MailRef → Option LogRule
mail_fault l r before m = unless (mail_refers l r before m) BadReference None

unfoldable pub send_refers : Log → Row → Option Sent → Sent → Bool
send_refers l r before s = nat_lt s.to l.chares && (nat_lt s.key.entry l.entries && (follows offset_is_up_to before s && nat_le s.offset r.cost))

-- a send, where these are the places of earlier ones
abbrev pub send_fault : Log → Row → (Place → Bool) → Option Sent → Sent → Option LogRule
send_fault l r seen before s = unless (send_refers l r before s) BadReference (unless (not (seen (goal_of s))) TwiceUsed None)

unfoldable pub trap_refers : Log → Option TrapRow → TrapRow → Bool
trap_refers l before t = nat_lt t.chare l.chares && follows trap_is_lower before t

abbrev pub trap_fault : Log → Option TrapRow → TrapRow → Option LogRule
trap_fault l before t = unless (trap_refers l before t) BadReference None

-- where these are the places that rows send to
unfoldable pub wait_refers : Log → (Place → Bool) → Option WaitRow → WaitRow → Bool
wait_refers l sent before w = nat_lt w.chare l.chares && (nat_lt w.key.entry l.entries && (follows wait_is_up_to before w && not (sent (spot_of w))))

-- and these those of earlier waits
abbrev pub wait_fault : Log → (Place → Bool) → (Place → Bool) → Option WaitRow → WaitRow → Option LogRule
wait_fault l sent seen before w = unless (wait_refers l sent before w) BadReference (unless (not (seen (spot_of w))) TwiceUsed None)

-- the places that rows send to, and those before
abbrev pub with_rows : (Place → Bool) → List Row → Place → Bool
with_rows seen [] = seen
with_rows seen (r ∷ rs) = with_rows (with_places goal_of seen r.sends) rs

-- the least rule that a line breaks, if it breaks one
abbrev pub fault : Log → Line → Option LogRule
fault l (RowLine before r) = row_fault l before r
fault l (AfterLine k r before n) = after_fault l k r before n
fault l (MailLine r before m) = mail_fault l r before m
fault l EmitLine = None
fault l (SendLine r earlier before s) = send_fault l r (places goal_of earlier) before s
fault l (TrapLine before t) = trap_fault l before t
fault l (WaitLine earlier before w) = wait_fault l (with_rows nowhere l.rows) (places spot_of earlier) before w
