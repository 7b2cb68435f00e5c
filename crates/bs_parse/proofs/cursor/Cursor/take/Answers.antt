use Rattle.std.proofs.Common.{◌≡◌, ◌+◌, List, ◌∷◌, drop, map, None, sym, ap, ◌∙◌}
use Rattle.std.proofs.lemmas.List.{drop-drop, drop-map}
use Rattle.bs_tree.specs.Limits.{Counts, most_allowed, refused, after}
use Rattle.bs_tree.specs.Rule.{Terminal, Role, Item}
use Rattle.bs_parse.specs.Reading.{take_any, got, allowed}
use Rattle.bs_parse.specs.Seen.{terminal, role_of}
use Rattle.bs_parse.proofs.cursor.Cursor.take.Goals as goal

taken : (most counts end : Counts) (role : Role) (t : Terminal) (ts rest us : List Terminal) → rest ≡ t ∷ ts → refused most counts (role, t) ≡ None → end ≡ after counts (role, t) → us ≡ ts → take_any most role counts rest ≡ got tt end us
taken most counts end role t ts rest us is none counted same =
    ap (take_any most role counts) is ∙ ap (allowed tt (after counts (role, t)) t ts) none ∙ ap (λ c. got tt c ts) (sym counted) ∙ ap (got tt end) (sym same)

pub returns : goal.returns
returns c =
    let left : map terminal (drop (c.self.inside.at + 1) c.self.inside.all.now) ≡ drop 1 c.args.self.now.rest =
    ap (map terminal) (sym (drop-drop 1 c.self.inside.at c.self.inside.all.now)) ∙ sym (drop-map terminal 1 (drop c.self.inside.at c.self.inside.all.now)) ∙ ap (λ i. drop 1 i.rest) c.self.view_is in
    let counts = c.args.self.now.counts in
    let item : Item = (role_of c.args.role, terminal c.in-Some.next) in
    let b : c.brackets_after-self-inside.result ≡ (after counts item).brackets = c.brackets_after-self-inside.ensures.value ∙ ap (λ i. (after i.counts item).brackets) c.self.view_is in
    let o : c.operators_after-self-inside.result ≡ (after counts item).operators = c.operators_after-self-inside.ensures.value ∙ ap (λ i. (after i.counts item).operators) c.self.view_is in
    let s : c.statements_after-self-inside.result ≡ (after counts item).statements = c.statements_after-self-inside.ensures.value ∙ ap (λ i. (after i.counts item).statements) c.self.view_is in
    taken most_allowed counts _ (role_of c.args.role) (terminal c.in-Some.next) (drop 1 c.args.self.now.rest) c.args.self.now.rest _ c.in-Some.ensures (sym c.in-None.ensures)
    (λ j. record { brackets = b j; operators = o j; statements = s j }) left
