-- What the numbering of the names of a text has come to.
use Rattle.std.specs.Prelude.{◌≡◌, ℕ, ◌≤◌, length, List, [], ◌∷◌, map, Option, Some, None, option_map, if◌then◌else◌}
use Rattle.std.specs.BTreeMap.{get_by}
use Rattle.std.specs.Cmp.Lexicographic.{slice_cmp}
use Rattle.std.specs.Ordering.{nat_cmp}
use Rattle.bs_tree.specs.Symbol.{Symbol}
use Rattle.bs_tree.specs.declared.tree.Name.{Name}
use Rattle.bs_lex.specs.declared.token.Token.{Token}
use Rattle.bs_parse.specs.declared.cursor.Lexeme.{Lexeme}
use Rattle.bs_parse.specs.declared.names.Names.{Names}
use Rattle.bs_parse.specs.Seen.{terminal}
use Rattle.bs_parse.specs.Text.{is_among, known_after, place_of, numbered}

-- the bytes of names
abbrev pub texts : List Name → List (List ℕ)
texts names = map (λ name. name.0) names

-- the place of a name, if it is among these
abbrev pub place_among : List (List ℕ) → List ℕ → Option ℕ
place_among names name = if is_among name names then Some (place_of names name) else None

-- the map has the place of each name that is known, and no other
abbrev pub IsTied : Names → Type 0
IsTied names = (name : List ℕ) → get_by (λ key. slice_cmp nat_cmp name key.now) names.places ≡ place_among (texts names.known) name

-- the value, if there is one, as a list
abbrev pub optional : {A : Type 0} → Option A → List A
optional None = []
optional (Some a) = a ∷ []

-- the symbol, if there is one, has become a lexeme, and its name is known from then on
pub record Takes (symbol : Option Symbol) (lexeme : Option Lexeme) (old new : Names) : Type 0 where
  pub known : texts new.known ≡ known_after (texts old.known) (optional symbol)
  pub is : option_map terminal lexeme ≡ option_map (numbered (texts new.known)) symbol
  pub tied : IsTied new

-- the token stands within the text
abbrev pub IsWithin : List ℕ → Token → Type 0
IsWithin text token = (token.from ≤ token.to) × (token.to ≤ length text)
