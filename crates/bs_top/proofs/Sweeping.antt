-- What comes of a log and several machines, from its steps.
use Rattle.std.proofs.Common.{◌≡◌, ◌≤◌, ◌<◌, ◌-◌, ◌⊎◌, ℕ, Bool, length, take, drop, get_or, arith, List, [], ◌∷◌, ◌++◌, map, inl, inr, refl, sym, ap, ap₂, ◌+◌, subst, ◌∙◌, Option, Some, None, Result, Ok, Err}
use Rattle.std.specs.Prelude.{IfOk}
use Rattle.std.proofs.lemmas.List.{append-nil, take_all, take_more}
use Rattle.std.specs.Option.{option_map}
use Rattle.std.specs.declared.alloc.Global.{Global}
use Rattle.std.specs.declared.vec.Vec.{Vec}
use Rattle.bs_desk.specs.Outside.{Files}
use Rattle.bs_log.specs.Lists.{Mem}
use Rattle.bs_log.specs.declared.log.Log.{Log}
use Rattle.bs_machine.specs.Machine.{MachineOf, machine_view}
use Rattle.bs_machine.specs.declared.fitted.Fitted.{Fitted}
use Rattle.bs_machine.specs.declared.machine.Machine.{Machine}
use Rattle.bs_times.proofs.Members.{mem_cases}
use Rattle.bs_top.specs.Answer.{reply_to}
use Rattle.bs_top.specs.Inputs.{fits, fitting_machine, log_named, machine_named, machines_behind}
use Rattle.bs_top.specs.Seen.{AreFittedTo, said_of}
use Rattle.bs_top.specs.Step.{Said, Step, Told, and_then, gives}
use Rattle.bs_top.specs.Words.{sweep, with_word, words_of}
use Rattle.bs_top.specs.commands.Sweep.{sweep_on, views}
use Rattle.bs_top.specs.declared.reply.Reply.{Reply}
use Rattle.bs_top.specs.declared.stopped.Stopped.{Stopped}
use Rattle.bs_top.specs.declared.stopped.Stopped.TheVariants.{Refused, NoFile, ReadFault, Memory}
use Rattle.bs_words.specs.Machine.{MachineWord, machine_word, word_of}
use Rattle.bs_words.specs.declared.machine.MachineWord.{MachineWord as Word}
use Rattle.bs_top.proofs.Simulating.{this_log}
use Rattle.bs_top.proofs.Stages.{stops, goes_on}

-- a fitted machine, and several, as contracts see them
abbrev pub view : Fitted → MachineOf
view f = machine_view f.machine

abbrev pub views_of : Vec Fitted Global → List MachineOf
views_of fitted = views fitted.items

module _ (files : Files) (chares : ℕ) where
  -- ---- one machine

  module _ (word : MachineWord) where
    pub not_named : (stop : Stopped) → Told machine_view (machine_named files word) (Err stop) → Told view (fitting_machine files chares word) (Err stop)
    unfolding fitting_machine
    not_named stop h = stops machine_view view (machine_named files word) (λ m. and_then (fits chares m) (λ _. gives (Ok m))) stop h

    fitted_as : (m : MachineOf) (r : Result Fitted Stopped) → IfOk r (λ f. machine_view f.machine ≡ m) → Told (λ _. tt) (fits chares m) r → Told view (and_then (fits chares m) (λ _. gives (Ok m))) r
    fitted_as m (Ok f) same h = (tt, h, ap (λ m. Ok m) (sym same))
    fitted_as m (Err (Refused why)) same h = inl h
    fitted_as m (Err NoFile) same h = inl h
    fitted_as m (Err ReadFault) same h = tt
    fitted_as m (Err Memory) same h = tt

    pub fitted_or_not : (m : MachineOf) (r : Result Fitted Stopped) → machine_named files word (Ok m) → IfOk r (λ f. machine_view f.machine ≡ m) → Told (λ _. tt) (fits chares m) r → Told view (fitting_machine files chares word) r
    unfolding fitting_machine
    fitted_or_not m r named same h = goes_on view (machine_named files word) (λ m. and_then (fits chares m) (λ _. gives (Ok m))) m r named (fitted_as m r same h)

  -- ---- machines behind others

  module _ (before : List MachineOf) (word : MachineWord) (words : List MachineWord) where
    pub no_next : (stop : Stopped) → Told view (fitting_machine files chares word) (Err stop) → Told views_of (machines_behind before files chares (word ∷ words)) (Err stop)
    unfolding machines_behind
    no_next stop h = stops view views_of (fitting_machine files chares word) (λ m. machines_behind (before ++ m ∷ []) files chares words) stop h

    pub then_next : (m : MachineOf) (r : Result (Vec Fitted Global) Stopped) → fitting_machine files chares word (Ok m) → Told views_of (machines_behind (before ++ m ∷ []) files chares words) r → Told views_of (machines_behind before files chares (word ∷ words)) r
    unfolding machines_behind
    then_next m r is h = goes_on views_of (fitting_machine files chares word) (λ m. machines_behind (before ++ m ∷ []) files chares words) m r is h

  pub no_more : (before : List MachineOf) (words : List Word) → length words < 1 → machines_behind before files chares (map word_of words) (Ok before)
  unfolding machines_behind
  no_more before [] less = refl
  no_more before (word ∷ words) less = absurd (omega (arith, less))

  -- the same of the words of a list
  module _ (before : List MachineOf) (words : List Word) (d : Word) (some : 1 ≤ length words) where
    pub no_first : (stop : Stopped) → Told view (fitting_machine files chares (word_of (get_or words 0 d))) (Err stop) → Told views_of (machines_behind before files chares (map word_of words)) (Err stop)
    no_first stop h = by words some h
      where
        by : (words : List Word) → 1 ≤ length words → Told view (fitting_machine files chares (word_of (get_or words 0 d))) (Err stop) → Told views_of (machines_behind before files chares (map word_of words)) (Err stop)
        by [] some h = absurd (omega (arith, some))
        by (word ∷ words) some h = no_next before (word_of word) (map word_of words) stop h

    pub then_rest : (m : MachineOf) (r : Result (Vec Fitted Global) Stopped) → fitting_machine files chares (word_of (get_or words 0 d)) (Ok m)
        → Told views_of (machines_behind (before ++ m ∷ []) files chares (map word_of (take (length words - 1) (drop 1 words)))) r → Told views_of (machines_behind before files chares (map word_of words)) r
    then_rest m r is h = by words some is h
      where
        by : (words : List Word) → 1 ≤ length words → fitting_machine files chares (word_of (get_or words 0 d)) (Ok m)
            → Told views_of (machines_behind (before ++ m ∷ []) files chares (map word_of (take (length words - 1) (drop 1 words)))) r → Told views_of (machines_behind before files chares (map word_of words)) r
        by [] some is h = absurd (omega (arith, some))
        by (word ∷ words) some is h =
            let rest : take (length (word ∷ words) - 1) words ≡ words = take_all (length (word ∷ words) - 1) words (omega arith) in
            then_next before (word_of word) (map word_of words) m r is (subst (λ ws. Told views_of (machines_behind (before ++ m ∷ []) files chares (map word_of ws)) r) rest h)

behind : (o : Option MachineWord) (words more : List MachineWord) → with_word o (words ++ more) ≡ with_word o words ++ more
behind None words more = refl
behind (Some word) words more = refl

-- the words among names, one name after the other
words_push : (names : List (List ℕ)) (name : List ℕ) → words_of (names ++ name ∷ []) ≡ words_of names ++ with_word (machine_word name) []
words_push [] name = refl
words_push (x ∷ xs) name = ap (with_word (machine_word x)) (words_push xs name) ∙ behind (machine_word x) (words_of xs) (with_word (machine_word name) [])

seen_push : (words : List Word) (word : Word) → map word_of (words ++ word ∷ []) ≡ map word_of words ++ word_of word ∷ []
seen_push [] word = refl
seen_push (w ∷ ws) word = ap (λ words. word_of w ∷ words) (seen_push ws word)

-- the words of one name more
pub more_words : (names : List (List ℕ)) (i : ℕ) (name d : List ℕ) (o : Option Word) (words new : List Word) → i < length names → name ≡ get_or names i d → option_map word_of o ≡ machine_word name
    → map word_of words ≡ words_of (take i names) → (map word_of new ≡ map word_of words ++ with_word (option_map word_of o) []) → map word_of new ≡ words_of (take (i + 1) names)
more_words names i name d o words new less is asked before pushed =
    pushed ∙ ap₂ (λ xs w. xs ++ with_word w []) before (asked ∙ ap machine_word is) ∙ sym (words_push (take i names) (get_or names i d)) ∙ ap words_of (sym (take_more names i d less))

pub with_one : (words new : List Word) (word : Word) (o : Option Word) → o ≡ Some word → new ≡ words ++ word ∷ [] → map word_of new ≡ map word_of words ++ with_word (option_map word_of o) []
with_one words new word o is e = ap (map word_of) e ∙ seen_push words word ∙ ap (λ o. map word_of words ++ with_word (option_map word_of o) []) (sym is)

pub with_none : (words : List Word) (o : Option Word) → o ≡ None → map word_of words ≡ map word_of words ++ with_word (option_map word_of o) []
with_none words o is = sym (append-nil (map word_of words)) ∙ ap (λ o. map word_of words ++ with_word (option_map word_of o) []) (sym is)

-- what a machine that was fitted is seen as
pub same : (m : Machine) (chares : ℕ) (r : Result Fitted Stopped) → IfOk r (λ f. (f.machine ≡ m) × (f.chares ≡ chares)) → IfOk r (λ f. machine_view f.machine ≡ machine_view m)
same m chares (Ok f) h = ap machine_view h.0
same m chares (Err stop) h = tt

-- machines behind none, of the words that are asked for
pub as_asked : (files : Files) (chares : ℕ) (before : List Fitted) (words : List Word) (asked : List MachineWord) (r : Result (Vec Fitted Global) Stopped) → before ≡ [] → map word_of words ≡ asked
    → Told views_of (machines_behind (views before) files chares (map word_of words)) r → Told views_of (machines_behind [] files chares asked) r
as_asked files chares before words asked r none are h =
    subst (λ ws. Told views_of (machines_behind [] files chares ws) r) are (subst (λ fs. Told views_of (machines_behind (views fs) files chares (map word_of words)) r) none h)

-- ---- machines that fit

views_push : (fs : List Fitted) (f : Fitted) → views (fs ++ f ∷ []) ≡ views fs ++ view f ∷ []
views_push [] f = refl
views_push (g ∷ gs) f = ap (λ ms. view g ∷ ms) (views_push gs f)

pub fitted_push : (chares : ℕ) (fs : List Fitted) (f : Fitted) → AreFittedTo chares fs → f.chares ≡ chares → AreFittedTo chares (fs ++ f ∷ [])
fitted_push chares fs f are is g m = by (mem_cases g fs (f ∷ []) m)
  where
    by : Mem g fs ⊎ Mem g (f ∷ []) → g.chares ≡ chares
    by (inl m) = are g m
    by (inr (inl e)) = ap (λ (g : Fitted). g.chares) e ∙ is
    by (inr (inr m)) = absurd m

pub behind_push : (files : Files) (chares : ℕ) (words : List MachineWord) (fs : List Fitted) (f : Fitted) (r : Result (Vec Fitted Global) Stopped)
    → Told views_of (machines_behind (views (fs ++ f ∷ [])) files chares words) r → Told views_of (machines_behind (views fs ++ view f ∷ []) files chares words) r
behind_push files chares words fs f r h = subst (λ ms. Told views_of (machines_behind ms files chares words) r) (views_push fs f) h

-- machines that were fitted to so many chares, as they are seen
abbrev pub Fits : ℕ → List MachineOf → Type 0
Fits chares ms = (fs : List Fitted) × (views fs ≡ ms) × AreFittedTo chares fs

module _ (files : Files) (chares : ℕ) (can_fit : (word : MachineWord) (m : MachineOf) → machine_named files word (Ok m) → fits chares m (Ok tt) → (f : Fitted) × (machine_view f.machine ≡ m) × (f.chares ≡ chares)) where
  one_fitted : (word : MachineWord) (m : MachineOf) → fitting_machine files chares word (Ok m) → (f : Fitted) × (machine_view f.machine ≡ m) × (f.chares ≡ chares)
  unfolding fitting_machine
  one_fitted word m (n, named, (_, fit, e)) = let f = can_fit word n named fit in (f.0, f.1 ∙ same_machine e, f.2)
    where
      same_machine : {a b : MachineOf} → ◌≡◌ {A = Result MachineOf Stopped} (Ok a) (Ok b) → a ≡ b
      same_machine e = cc

  pub all_fitted : (words : List MachineWord) (before ms : List MachineOf) → machines_behind before files chares words (Ok ms) → Fits chares before → Fits chares ms
  unfolding machines_behind
  all_fitted [] before ms e fit = subst (Fits chares) (same_machines e) fit
    where
      same_machines : {ms ns : List MachineOf} → ◌≡◌ {A = Result (List MachineOf) Stopped} (Ok ms) (Ok ns) → ms ≡ ns
      same_machines e = cc
  all_fitted (word ∷ words) before ms (m, is, rest) fit =
      let f = one_fitted word m is in
      all_fitted words (before ++ m ∷ []) ms rest (fit.0 ++ f.0 ∷ [], views_push fit.0 f.0 ∙ (λ i. fit.1 i ++ f.1 i ∷ []), fitted_push chares fit.0 f.0 fit.2 f.2)

-- ---- the command

module _ (files : Files) (name : List ℕ) (words : List MachineWord) (spans : Bool) where
  pub no_log : (stop : Stopped) → Told this_log (log_named files name) (Err stop) → Told said_of (reply_to files (Some (sweep name words spans))) (Err stop)
  unfolding reply_to
  no_log stop h = stops this_log said_of (log_named files name) (λ kept. and_then (machines_behind [] files kept.chares words) (λ ms. sweep_on spans kept ms)) stop h

  module _ (kept : Log) (is_log : log_named files name (Ok kept)) where
    on_log : (r : Result Reply Stopped) → Told said_of (and_then (machines_behind [] files kept.chares words) (λ ms. sweep_on spans kept ms)) r → Told said_of (reply_to files (Some (sweep name words spans))) r
    unfolding reply_to
    on_log r h = goes_on said_of (log_named files name) (λ kept. and_then (machines_behind [] files kept.chares words) (λ ms. sweep_on spans kept ms)) kept r is_log h

    pub no_machines : (stop : Stopped) → Told views_of (machines_behind [] files kept.chares words) (Err stop) → Told said_of (reply_to files (Some (sweep name words spans))) (Err stop)
    no_machines stop h = on_log (Err stop) (stops views_of said_of (machines_behind [] files kept.chares words) (λ ms. sweep_on spans kept ms) stop h)

    pub sweeps : (ms : List MachineOf) (reply : Reply) → machines_behind [] files kept.chares words (Ok ms) → sweep_on spans kept ms (Ok (said_of reply)) → Told said_of (reply_to files (Some (sweep name words spans))) (Ok reply)
    sweeps ms reply h k = on_log (Ok reply) (ms, h, k)
