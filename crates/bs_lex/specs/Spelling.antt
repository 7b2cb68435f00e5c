-- How tokens are written.
use Rattle.std.specs.Prelude.{ℕ, ◌==◌, nat_eq, nat_le, Bool, ◌&&◌, ◌||◌, List, [], ◌∷◌, Option, find, codes}
use Rattle.std.specs.List.{starts_with}
use Rattle.std.specs.Str.{bytes_eq}
use Rattle.bs_num.specs.Decimal.{is_digit}
use Rattle.bs_tree.specs.declared.symbols.Word.{Word}
use Rattle.bs_tree.specs.declared.symbols.Word.TheVariants.{Chares, Var, Entry, Body, Serial, When, Overlap, For, While, If, Else, Send, To, Bytes, Work, Emit, Repeat, This}
use Rattle.bs_tree.specs.declared.symbols.Mark.{Mark}
use Rattle.bs_tree.specs.declared.symbols.Mark.TheVariants.{BraceLeft, BraceRight, ParenLeft, ParenRight, BracketLeft, BracketRight, Semicolon, Comma, Assign, Equal, NotEqual, Less, LessEqual, Greater, GreaterEqual, Plus, Minus, Star, Slash, Percent, Not, And, Or}

-- space, tab, LF and CR
abbrev pub is_blank : ℕ → Bool
is_blank byte = byte == 32 || byte == 9 || byte == 10 || byte == 13

-- `a` to `z`, `A` to `Z` or `_`
abbrev pub is_letter : ℕ → Bool
is_letter byte = (nat_le 97 byte && nat_le byte 122) || (nat_le 65 byte && nat_le byte 90) || byte == 95

-- what a name may go on with
abbrev pub is_name_byte : ℕ → Bool
is_name_byte byte = is_letter byte || is_digit byte

abbrev pub word_text : Word → List ℕ
word_text Chares = codes "chares"
word_text Var = codes "var"
word_text Entry = codes "entry"
word_text Body = codes "body"
word_text Serial = codes "serial"
word_text When = codes "when"
word_text Overlap = codes "overlap"
word_text For = codes "for"
word_text While = codes "while"
word_text If = codes "if"
word_text Else = codes "else"
word_text Send = codes "send"
word_text To = codes "to"
word_text Bytes = codes "bytes"
word_text Work = codes "work"
word_text Emit = codes "emit"
word_text Repeat = codes "repeat"
word_text This = codes "this"

abbrev pub words : List Word
words = Chares ∷ Var ∷ Entry ∷ Body ∷ Serial ∷ When ∷ Overlap ∷ For ∷ While ∷ If ∷ Else ∷ Send ∷ To ∷ Bytes ∷ Work ∷ Emit ∷ Repeat ∷ This ∷ []

-- the reserved word with this text, if it is one
abbrev pub word_named : List ℕ → Option Word
word_named name = find (λ word. bytes_eq name (word_text word)) words

abbrev pub mark_text : Mark → List ℕ
mark_text BraceLeft = codes "{"
mark_text BraceRight = codes "}"
mark_text ParenLeft = codes "("
mark_text ParenRight = codes ")"
mark_text BracketLeft = codes "["
mark_text BracketRight = codes "]"
mark_text Semicolon = codes ";"
mark_text Comma = codes ","
mark_text Assign = codes "="
mark_text Equal = codes "=="
mark_text NotEqual = codes "!="
mark_text Less = codes "<"
mark_text LessEqual = codes "<="
mark_text Greater = codes ">"
mark_text GreaterEqual = codes ">="
mark_text Plus = codes "+"
mark_text Minus = codes "-"
mark_text Star = codes "*"
mark_text Slash = codes "/"
mark_text Percent = codes "%"
mark_text Not = codes "!"
mark_text And = codes "&&"
mark_text Or = codes "||"

-- all marks, those of two characters first
abbrev pub marks : List Mark
marks = Equal ∷ NotEqual ∷ LessEqual ∷ GreaterEqual ∷ And ∷ Or
    ∷ BraceLeft ∷ BraceRight ∷ ParenLeft ∷ ParenRight ∷ BracketLeft ∷ BracketRight ∷ Semicolon ∷ Comma ∷ Assign
    ∷ Less ∷ Greater ∷ Plus ∷ Minus ∷ Star ∷ Slash ∷ Percent ∷ Not ∷ []

-- the longest mark that the bytes begin with
abbrev pub mark_at : List ℕ → Option Mark
mark_at bytes = find (λ mark. starts_with nat_eq bytes (mark_text mark)) marks
