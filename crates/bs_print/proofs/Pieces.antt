-- The text of items, in pieces.
use Rattle.std.proofs.Common.{◌≡◌, List, [], ◌∷◌, ◌++◌, refl, sym, ap, ◌∙◌, append_assoc, map}
use Rattle.std.proofs.lemmas.List.Concat.{flat_map-append}
use Rattle.bs_tree.specs.Rule.{Item, terminals}
use Rattle.bs_tree.specs.Symbol.{Symbol}
use Rattle.bs_tree.specs.declared.tree.Name.{Name}
use Rattle.bs_lex.specs.Symbols.{symbol_text}
use Rattle.bs_lex.specs.Written.{written, blank_before}
use Rattle.bs_print.specs.Canonical.{spaced, symbol_in, spaced_items}

pub spaced_append : (names : List Name) (xs ys : List Item) → spaced_items names (xs ++ ys) ≡ spaced_items names xs ++ spaced_items names ys
spaced_append names xs ys = flat_map-append _ xs ys

-- symbols of items
abbrev pub symbols_in : List Name → List Item → List Symbol
symbols_in names items = map (symbol_in names) (terminals items)

another_follows : (names : List Name) (items : List Item) (last : Item) → blank_before (symbols_in names (items ++ last ∷ [])) ≡ 32
another_follows names [] last = refl
another_follows names (item ∷ items) last = refl

-- each symbol but the last one has a space behind it
pub written_last : (names : List Name) (items : List Item) (last : Item) → written (symbols_in names (items ++ last ∷ [])) ≡ spaced_items names items ++ (symbol_text (symbol_in names last.1) ++ 10 ∷ [])
unfolding spaced
written_last names [] last = refl
written_last names (item ∷ items) last =
    let text = symbol_text (symbol_in names item.1) in
    let behind = spaced_items names items ++ (symbol_text (symbol_in names last.1) ++ 10 ∷ []) in
    ap (λ byte. text ++ byte ∷ written (symbols_in names (items ++ last ∷ []))) (another_follows names items last)
    ∙ ap (λ rest. text ++ 32 ∷ rest) (written_last names items last)
    ∙ sym (append_assoc text (32 ∷ []) behind)
    ∙ sym (append_assoc (text ++ 32 ∷ []) (spaced_items names items) (symbol_text (symbol_in names last.1) ++ 10 ∷ []))
