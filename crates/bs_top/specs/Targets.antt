-- Where texts go, and what is then outside.
use Rattle.std.specs.Prelude.{ℕ, true, List, Option, Some, None, option_map}
use Rattle.bs_desk.specs.declared.desk.Port.TheVariants as port
use Rattle.bs_desk.specs.Outside.{Outside, more_told, with_contents, written}

-- standard output, standard error, or the file of that name, which is made or replaced
pub data TargetOf : Type 0 where
  output : TargetOf
  errors : TargetOf
  in_file : List ℕ → TargetOf

-- with a file of that name that holds just these bytes, and is the created one
abbrev pub with_file : List ℕ → List ℕ → Outside → Outside
with_file name bytes o = record (with_contents name bytes o) {
  is_created = true;
  created = option_map (λ _. name) o.files;
  file = more_told o.files o.file bytes;
}

-- with the text at its place
abbrev pub put : TargetOf → List ℕ → Outside → Outside
put output text o = written port.Out text o
put errors text o = written port.Err text o
put (in_file name) text o = with_file name text o

-- a text for the file of that name
pub record Note : Type 0 where
  pub name : List ℕ
  pub text : List ℕ

-- with a note in its file, if there is one
abbrev pub noted : Option Note → Outside → Outside
noted None o = o
noted (Some note) o = put (in_file note.name) note.text o
