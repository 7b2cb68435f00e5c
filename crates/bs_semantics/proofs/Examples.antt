-- The examples, evaluated.
use Rattle.std.proofs.Common.{refl, sym, subst, ◌<◌, arith, ◌≡◌, ◌∙◌, ap, ℕ, ℤ, pos, List, [], ◌∷◌, Some, Ok, false}
use Rattle.bs_tree.specs.declared.tree.Op2.TheVariants.{Sub}
use Rattle.bs_log.specs.declared.history.History.{History}
use Rattle.bs_log.specs.Size.{size_all}
use Rattle.bs_log.specs.Messages.{sent}
use Rattle.bs_log.specs.Sound.{Once}
use Rattle.bs_semantics.specs.Value.{Cells}
use Rattle.bs_semantics.specs.Acts.{block_of, Parcel}
use Rattle.bs_semantics.specs.Rounds.{mail, mail_to, round, histories, Undecided, CleanAt}
use Rattle.bs_semantics.specs.Verdict.{is_clean, is_twice}
use Rattle.bs_semantics.specs.Verdict as verdicts
use Rattle.bs_semantics.specs.Examples.{number, variable, this, two, work, emit, send, x, go, key, path, exchange, message_of, both_histories, ExchangeRuns, sends_twice, sent_by_both, SendsTwice, asks_twice, asked_by_both, AsksTwice, waits_both, waiting, WaitsBoth}
use Rattle.bs_semantics.proofs.Options.{none_some}
use Rattle.bs_semantics.proofs.Ambiguous.{once_of}
use Rattle.bs_semantics.proofs.Unrolled.{value_number, value_variable, value_this, value_two, act_work, act_emit, act_send, meant_serial, meant_when, meant_overlap, meant_if}

abbrev limit : ℕ
limit = 262144

not_below : {A : Type 0} (m : ℕ) → m < 0 → A
not_below m l = absurd (omega (arith, l))

abbrev parcel : ℕ → ℕ → ℕ → List ℤ → Parcel
parcel to reference offset args = record { sent = record { to = to; key = key reference; bytes = 8; offset = offset }; args = args }

-- ---- two chares that send to each other

abbrev FirstBlock : ℕ → ℕ → Type 0
FirstBlock c to = block_of exchange c (work (number 3) ∷ send go (number 7) (this ∷ []) (two Sub (number 1) this) ∷ []) (pos 0 ∷ []) ≡ Ok (record { cells = pos 0 ∷ []; cost = 4; steps = 2; sends = parcel to 7 4 (pos c ∷ []) ∷ []; emits = [] })

first_block_0 : FirstBlock 0 1
unfolding block_of
first_block_0 = rw (act_work exchange 0, value_number exchange 0 3 (pos 0 ∷ []), act_send exchange 0, value_number exchange 0 7 (pos 0 ∷ []), value_this exchange 0 (pos 0 ∷ []), value_two exchange 0, value_number exchange 0 1 (pos 0 ∷ []), value_this exchange 0 (pos 0 ∷ [])) refl

first_block_1 : FirstBlock 1 0
unfolding block_of
first_block_1 = rw (act_work exchange 1, value_number exchange 1 3 (pos 0 ∷ []), act_send exchange 1, value_number exchange 1 7 (pos 0 ∷ []), value_this exchange 1 (pos 0 ∷ []), value_two exchange 1, value_number exchange 1 1 (pos 0 ∷ []), value_this exchange 1 (pos 0 ∷ [])) refl

second_block : (c : ℕ) (v : ℤ) → block_of exchange c (work (number 2) ∷ emit (variable x) ∷ []) (v ∷ []) ≡ Ok (record { cells = v ∷ []; cost = 3; steps = 2; sends = []; emits = v ∷ [] })
unfolding block_of
second_block c v = rw (act_work exchange c, value_number exchange c 2 (v ∷ []), act_emit exchange c, value_variable exchange c x (v ∷ [])) refl

first_mail : mail exchange limit 1 ≡ message_of 0 1 ∷ message_of 1 0 ∷ []
first_mail = simp (meant_serial, first_block_0, first_block_1, meant_when, value_number) refl

whole : histories exchange limit (message_of 0 1 ∷ message_of 1 0 ∷ []) ≡ both_histories
whole = simp (meant_serial, first_block_0, first_block_1, meant_when, value_number, second_block) refl

round_1 : round exchange limit 1 ≡ both_histories
round_1 = ap (histories exchange limit) first_mail ∙ whole

second_mail : mail exchange limit 2 ≡ mail exchange limit 1
second_mail = ap sent round_1 ∙ sym first_mail

-- a chare after its first block
abbrev half : ℕ → ℕ → History
half c other = record {
  blocks = record { path = path (0 ∷ []); stmt = 1; depth = 1; cost = 4; after = []; mail = []; emits = []; sends = message_of c other ∷ [] } ∷ [];
  asked = record { key = key 7; path = path (1 ∷ []); stmt = 2 } ∷ [];
  waits = record { path = path (1 ∷ []); stmt = 2; key = key 7 } ∷ [];
  traps = [];
  ended = false;
}

round_0 : round exchange limit 0 ≡ half 0 1 ∷ half 1 0 ∷ []
round_0 = simp (meant_serial, first_block_0, first_block_1, meant_when, value_number) refl

not_yet : Undecided exchange limit 0
not_yet = record {
  size = let e = ap size_all round_0 in omega (arith, e);
  once = subst Once (sym round_0) (once_of (half 0 1 ∷ half 1 0 ∷ []) refl);
  news = λ f. none_some (sym (f 1 (key 7)) ∙ ap (λ ms. mail_to ms 1 (key 7)) first_mail);
}

exchange_clean : CleanAt exchange limit 1
exchange_clean = record {
  before = λ m l. let e : 0 ≡ m = omega (arith, l) in subst (Undecided exchange limit) e not_yet;
  size = let e = ap size_all round_1 in omega (arith, e);
  once = subst Once (sym round_1) (once_of both_histories refl);
  same = λ c k. ap (λ ms. mail_to ms c k) second_mail;
}

pub exchange_runs : ExchangeRuns limit
exchange_runs = record {
  histories = round_1;
  first_mail = first_mail;
  second_mail = second_mail;
  size = ap size_all round_1;
  verdict = subst (λ hs. verdicts.IsVerdict exchange limit (verdicts.clean hs)) round_1 (is_clean 1 exchange_clean);
}

-- ---- a key that is sent twice

one_send : (k : ℕ) (cells : Cells) → block_of sends_twice 0 (send go (number 0) (number k ∷ []) (number 1) ∷ []) cells ≡ Ok (record { cells = cells; cost = 1; steps = 1; sends = parcel 1 0 1 (pos k ∷ []) ∷ []; emits = [] })
unfolding block_of
one_send k cells = rw (act_send sends_twice 0, value_number sends_twice 0 0 cells, value_number sends_twice 0 k cells, value_number sends_twice 0 1 cells) refl

sends_size : size_all (round sends_twice limit 0) ≡ 6
sends_size = simp (meant_if, meant_serial, meant_when, value_two, value_this, value_number, one_send) refl

sends_named : verdicts.ambiguous (round sends_twice limit 0) ≡ Some sent_by_both
sends_named = simp (meant_if, meant_serial, meant_when, value_two, value_this, value_number, one_send) refl

pub sends_twice_is : SendsTwice limit
sends_twice_is = record { named = sends_named; verdict = is_twice 0 (λ m l. not_below m l) (let e = sends_size in omega (arith, e)) _ sends_named }

-- ---- a key that is asked twice

asks_size : size_all (round asks_twice limit 0) ≡ 2
asks_size = simp (meant_overlap, meant_when, meant_serial, value_number) refl

asks_named : verdicts.ambiguous (round asks_twice limit 0) ≡ Some asked_by_both
asks_named = simp (meant_overlap, meant_when, meant_serial, value_number) refl

pub asks_twice_is : AsksTwice limit
asks_twice_is = record { named = asks_named; verdict = is_twice 0 (λ m l. not_below m l) (let e = asks_size in omega (arith, e)) _ asks_named }

-- ---- two chares that wait for each other

both_wait : round waits_both limit 0 ≡ waiting ∷ waiting ∷ []
both_wait = simp (meant_when, value_number) refl

no_mail : mail waits_both limit 1 ≡ mail waits_both limit 0
no_mail = simp (meant_when, value_number) refl

waits_clean : CleanAt waits_both limit 0
waits_clean = record {
  before = λ m l. not_below m l;
  size = let e = ap size_all both_wait in omega (arith, e);
  once = subst Once (sym both_wait) (once_of (waiting ∷ waiting ∷ []) refl);
  same = λ c k. ap (λ ms. mail_to ms c k) no_mail;
}

pub waits_both_is : WaitsBoth limit
waits_both_is = record {
  histories = both_wait;
  mail = no_mail;
  verdict = subst (λ hs. verdicts.IsVerdict waits_both limit (verdicts.clean hs)) both_wait (is_clean 0 waits_clean);
}
