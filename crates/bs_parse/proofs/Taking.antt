-- What one token does to the lexemes and to the names.
use Rattle.std.proofs.Common.{◌≡◌, ℕ, List, [], ◌∷◌, ◌++◌, length, map, Option, Some, None, refl, sym, ap, ◌∙◌}
use Rattle.std.specs.BTreeMap.{get_by}
use Rattle.std.specs.Cmp.Lexicographic.{slice_cmp}
use Rattle.std.specs.List.{cons_option}
use Rattle.std.specs.Map.{update}
use Rattle.std.specs.Option.{option_map}
use Rattle.std.specs.Ordering.{nat_cmp}
use Rattle.std.specs.Str.{bytes_eq}
use Rattle.bs_tree.specs.Symbol as s
use Rattle.bs_tree.specs.Symbol.{Symbol}
use Rattle.bs_tree.specs.Rule as g
use Rattle.bs_tree.specs.Rule.{Terminal}
use Rattle.bs_tree.specs.declared.tree.Name.{Name}
use Rattle.bs_parse.specs.declared.cursor.Lexeme.{Lexeme}
use Rattle.bs_parse.specs.declared.cursor.Lexeme.TheVariants as lexeme
use Rattle.bs_parse.specs.declared.names.Names.{Names}
use Rattle.bs_parse.specs.Seen.{terminal}
use Rattle.bs_parse.specs.Text.{known_after, place_of, numbered, names_of, terminals_of, as_name}
use Rattle.bs_parse.specs.Naming.{texts, place_among, IsTied, optional, Takes}
use Rattle.bs_parse.proofs.Basics.{append_none}
use Rattle.bs_parse.proofs.Numbering.{numbering, numbering_all, not_among, known_new, place_behind, place_among_more, texts_append, texts_length, texts_back}

pub known_more : (symbol : Option Symbol) (said : List Symbol) (names : List (List ℕ)) → known_after names (cons_option symbol said) ≡ known_after (known_after names (optional symbol)) said
known_more None said names = refl
known_more (Some (s.name name)) said names = refl
known_more (Some (s.number n)) said names = refl
known_more (Some (s.word w)) said names = refl
known_more (Some (s.mark m)) said names = refl

abbrev lexed_as : Option Lexeme → List Terminal
lexed_as lexeme = map terminal (optional lexeme)

numbering_more : (symbol : Option Symbol) (said : List Symbol) (names : List (List ℕ)) → numbering names (cons_option symbol said) ≡ optional (option_map (numbered (known_after names (optional symbol))) symbol) ++ numbering (known_after names (optional symbol)) said
numbering_more None said names = refl
numbering_more (Some (s.name name)) said names = refl
numbering_more (Some (s.number n)) said names = refl
numbering_more (Some (s.word w)) said names = refl
numbering_more (Some (s.mark m)) said names = refl

of_lexeme : (lexeme : Option Lexeme) → optional (option_map terminal lexeme) ≡ lexed_as lexeme
of_lexeme None = refl
of_lexeme (Some lexeme) = refl

module _ (symbol : Option Symbol) (lexeme : Option Lexeme) (old new : Names) (t : Takes symbol lexeme old new) where
  pub known_on : (said : List Symbol) → known_after (texts old.known) (cons_option symbol said) ≡ known_after (texts new.known) said
  known_on said = known_more symbol said (texts old.known) ∙ ap (λ names. known_after names said) (sym t.known)

  pub numbered_on : (said : List Symbol) → numbering (texts old.known) (cons_option symbol said) ≡ map terminal (optional lexeme) ++ numbering (texts new.known) said
  numbered_on said =
      let names : List (List ℕ) = known_after (texts old.known) (optional symbol) in
      numbering_more symbol said (texts old.known)
      ∙ ap (λ ns. optional (option_map (numbered ns) symbol) ++ numbering ns said) (sym t.known)
      ∙ ap (λ o. optional o ++ numbering (texts new.known) said) (sym t.is)
      ∙ ap (λ ts. ts ++ numbering (texts new.known) said) (of_lexeme lexeme)

-- the map of places by the bytes of a name
abbrev found_in : Names → List ℕ → Option ℕ
found_in names name = get_by (λ key. slice_cmp nat_cmp name key.now) names.places

-- a name that isn't known comes behind the others
pub new_name : (old new : Names) (name copy : List ℕ) (place : ℕ) → IsTied old → place_among (texts old.known) name ≡ None → copy ≡ name → place ≡ length old.known → new.known ≡ old.known ++ as_name copy ∷ []
    → ((q : List ℕ) → found_in new q ≡ update bytes_eq (found_in old) name (Some place) q) → Takes (Some (s.name name)) (Some (lexeme.Name (record { 0 = place }))) old new
new_name old new name copy place tied none same at pushed put =
    let xs = texts old.known in
    let apart = not_among xs name none in
    let place_is : place ≡ length xs = at ∙ sym (texts_length old.known) in
    let behind : texts new.known ≡ xs ++ name ∷ [] = ap texts pushed ∙ texts_append old.known (as_name copy ∷ []) ∙ ap (λ n. xs ++ n ∷ []) same in
    record {
      known = behind ∙ sym (known_new xs name apart);
      is = ap (λ n. Some (g.name n)) (place_is ∙ sym (place_behind xs name apart) ∙ ap (λ ns. place_of ns name) (sym behind));
      tied = λ q. put q
          ∙ ap (λ f. update bytes_eq f name (Some place) q) {x = found_in old} {y = place_among xs} (λ j r. tied r j)
          ∙ ap (λ n. update bytes_eq (place_among xs) name (Some n) q) place_is
          ∙ place_among_more xs name q apart
          ∙ ap (λ ns. place_among ns q) (sym behind);
    }

-- at the end of the text
pub all_numbered : (said : List Symbol) (ts : List Terminal) (names : List (List ℕ)) → ts ++ numbering names [] ≡ numbering [] said → ts ≡ terminals_of said
all_numbered said ts names h = sym (append_none ts) ∙ h ∙ numbering_all said

pub all_known : (said : List Symbol) (names : List Name) → known_after (texts names) [] ≡ names_of said → names ≡ map as_name (names_of said)
all_known said names h = sym (texts_back names) ∙ ap (map as_name) h
