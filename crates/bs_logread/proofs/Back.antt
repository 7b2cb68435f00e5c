-- The lines of a log say which log it is.
use Rattle.std.proofs.Common.{◌≡◌, ℕ, ℤ, List, [], ◌∷◌, ◌++◌, map, refl, sym, ap, ◌∙◌, append_assoc}
use Rattle.std.specs.List.{flat_map}
use Rattle.std.proofs.lemmas.List.{append-nil}
use Rattle.bs_log.specs.declared.history.Sent.{Sent}
use Rattle.bs_log.specs.declared.log.MailRef.{MailRef}
use Rattle.bs_log.specs.declared.log.Row.{Row}
use Rattle.bs_log.specs.declared.log.TrapRow.{TrapRow}
use Rattle.bs_log.specs.declared.log.WaitRow.{WaitRow}
use Rattle.bs_log.specs.declared.log.Log.{Log}
use Rattle.bs_logread.specs.declared.lines.Line.{Line}
use Rattle.bs_logread.specs.declared.lines.Line.TheVariants as l
use Rattle.bs_logread.specs.Lines.{row_parts, log_lines}

-- what lines say, read from the last one on: the causes, values and sends are those of a row that is still to come
record Said : Type 0 where
  chares : ℕ
  entries : ℕ
  rows : List Row
  after : List ℕ
  mail : List MailRef
  emits : List ℤ
  sends : List Sent
  traps : List TrapRow
  waits : List WaitRow

plain : ℕ → ℕ → List Row → List TrapRow → List WaitRow → Said
plain c e rows traps waits = record { chares = c; entries = e; rows = rows; after = []; mail = []; emits = []; sends = []; traps = traps; waits = waits }

abbrev said : List Line → Said
said [] = record { chares = 0; entries = 0; rows = []; after = []; mail = []; emits = []; sends = []; traps = []; waits = [] }
said (l.Version ∷ xs) = said xs
said (l.Counts c ∷ xs) = record (said xs) { chares = c.chares; entries = c.entries }
said (l.Row h ∷ xs) = record (said xs) {
  rows = record { chare = h.chare; stmt = h.stmt; depth = h.depth; cost = h.cost; after = (said xs).after; mail = (said xs).mail; emits = (said xs).emits; sends = (said xs).sends } ∷ (said xs).rows;
  after = [];
  mail = [];
  emits = [];
  sends = [];
}
said (l.After n ∷ xs) = record (said xs) { after = n ∷ (said xs).after }
said (l.Mail m ∷ xs) = record (said xs) { mail = m ∷ (said xs).mail }
said (l.Emit v ∷ xs) = record (said xs) { emits = v ∷ (said xs).emits }
said (l.Send s ∷ xs) = record (said xs) { sends = s ∷ (said xs).sends }
said (l.Trap t ∷ xs) = record (said xs) { traps = t ∷ (said xs).traps }
said (l.Wait w ∷ xs) = record (said xs) { waits = w ∷ (said xs).waits }
said (l.End ∷ xs) = said xs

said_after : (ns : List ℕ) (xs : List Line) → said (map l.After ns ++ xs) ≡ record (said xs) { after = ns ++ (said xs).after }
said_after [] xs = refl
said_after (n ∷ ns) xs = ap (λ (q : Said). record q { after = n ∷ q.after }) (said_after ns xs)

said_mail : (ms : List MailRef) (xs : List Line) → said (map l.Mail ms ++ xs) ≡ record (said xs) { mail = ms ++ (said xs).mail }
said_mail [] xs = refl
said_mail (m ∷ ms) xs = ap (λ (q : Said). record q { mail = m ∷ q.mail }) (said_mail ms xs)

said_emits : (vs : List ℤ) (xs : List Line) → said (map l.Emit vs ++ xs) ≡ record (said xs) { emits = vs ++ (said xs).emits }
said_emits [] xs = refl
said_emits (v ∷ vs) xs = ap (λ (q : Said). record q { emits = v ∷ q.emits }) (said_emits vs xs)

said_sends : (ss : List Sent) (xs : List Line) → said (map l.Send ss ++ xs) ≡ record (said xs) { sends = ss ++ (said xs).sends }
said_sends [] xs = refl
said_sends (s ∷ ss) xs = ap (λ (q : Said). record q { sends = s ∷ q.sends }) (said_sends ss xs)

said_traps : (ts : List TrapRow) (xs : List Line) → said (map l.Trap ts ++ xs) ≡ record (said xs) { traps = ts ++ (said xs).traps }
said_traps [] xs = refl
said_traps (t ∷ ts) xs = ap (λ (q : Said). record q { traps = t ∷ q.traps }) (said_traps ts xs)

said_waits : (ws : List WaitRow) (xs : List Line) → said (map l.Wait ws ++ xs) ≡ record (said xs) { waits = ws ++ (said xs).waits }
said_waits [] xs = refl
said_waits (w ∷ ws) xs = ap (λ (q : Said). record q { waits = w ∷ q.waits }) (said_waits ws xs)

regrouped : (a b c d xs : List Line) → (a ++ (b ++ (c ++ d))) ++ xs ≡ a ++ (b ++ (c ++ (d ++ xs)))
regrouped a b c d xs = simp append_assoc

said_row : (r : Row) (xs : List Line) (c e : ℕ) (rows : List Row) (traps : List TrapRow) (waits : List WaitRow) → said xs ≡ plain c e rows traps waits → said (row_parts r ++ xs) ≡ plain c e (r ∷ rows) traps waits
unfolding plain
said_row r xs c e rows traps waits h =
    let four : said (map l.After r.after ++ (map l.Mail r.mail ++ (map l.Emit r.emits ++ (map l.Send r.sends ++ xs)))) ≡ record { chares = c; entries = e; rows = rows; after = r.after ++ []; mail = r.mail ++ []; emits = r.emits ++ []; sends = r.sends ++ []; traps = traps; waits = waits } =
    rw (said_after r.after (map l.Mail r.mail ++ (map l.Emit r.emits ++ (map l.Send r.sends ++ xs))), said_mail r.mail (map l.Emit r.emits ++ (map l.Send r.sends ++ xs)), said_emits r.emits (map l.Send r.sends ++ xs), said_sends r.sends xs, h) refl in
    let all : said ((map l.After r.after ++ (map l.Mail r.mail ++ (map l.Emit r.emits ++ map l.Send r.sends))) ++ xs) ≡ record { chares = c; entries = e; rows = rows; after = r.after; mail = r.mail; emits = r.emits; sends = r.sends; traps = traps; waits = waits } =
    ap said (regrouped (map l.After r.after) (map l.Mail r.mail) (map l.Emit r.emits) (map l.Send r.sends) xs) ∙ (four ∙ rw (append-nil r.after, append-nil r.mail, append-nil r.emits, append-nil r.sends) refl) in
    rw all refl

said_rows : (rs : List Row) (xs : List Line) (c e : ℕ) (traps : List TrapRow) (waits : List WaitRow) → said xs ≡ plain c e [] traps waits → said (flat_map row_parts rs ++ xs) ≡ plain c e rs traps waits
said_rows [] xs c e traps waits h = h
said_rows (r ∷ rs) xs c e traps waits h =
    ap said (append_assoc (row_parts r) (flat_map row_parts rs) xs) ∙ said_row r (flat_map row_parts rs ++ xs) c e rs traps waits (said_rows rs xs c e traps waits h)

said_ends : (traps : List TrapRow) (waits : List WaitRow) → said (map l.Trap traps ++ (map l.Wait waits ++ l.End ∷ [])) ≡ plain 0 0 [] traps waits
unfolding plain
said_ends traps waits = rw (said_traps traps (map l.Wait waits ++ l.End ∷ []), said_waits waits (l.End ∷ []), append-nil traps, append-nil waits) refl

log_of : Said → Log
log_of q = record { chares = q.chares; entries = q.entries; rows = q.rows; traps = q.traps; waits = q.waits }

log_again : (log : Log) → log_of (said (log_lines log)) ≡ log
unfolding log_lines log_of plain
log_again log = ap (λ (q : Said). log_of (record q { chares = log.chares; entries = log.entries }))
    (said_rows log.rows (map l.Trap log.traps ++ (map l.Wait log.waits ++ l.End ∷ [])) 0 0 log.traps log.waits (said_ends log.traps log.waits))

pub same_lines : (a b : Log) → log_lines a ≡ log_lines b → a ≡ b
same_lines a b e = sym (log_again a) ∙ (ap (λ (xs : List Line). log_of (said xs)) e ∙ log_again b)
