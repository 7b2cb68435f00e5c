-- What reading and then writing leaves as it was.
use Rattle.std.proofs.Common.{◌≡◌, ℕ, List, [], refl, sym, ap, ap₂, ◌∙◌, append-nil, Option, Some, None}
use Rattle.std.specs.FinMap as map
use Rattle.bs_desk.specs.Outside.{Outside, IsReading, more_told}
use Rattle.bs_top.specs.Targets.{Note, TargetOf, output, errors, in_file, noted, put}
use Rattle.bs_top.specs.Performs.{Keeps}
use Rattle.std.specs.Option.{option_map}

-- a text was put to its place after reading, and a call that writes may have been refused
pub kept_put : (place : TargetOf) (text : List ℕ) (old mid new : Outside) → IsReading old mid → new ≡ record (put place text mid) { write_faults = new.write_faults } → Keeps (put place text old) new
kept_put output text old mid new r w = λ i. record {
  files = (ap (λ (o : Outside). o.files) w ∙ ap (λ (o : Outside). o.files) r) i;
  rest = new.rest;
  out = (ap (λ (o : Outside). o.out) w ∙ ap₂ (λ f o. more_told f o text) (ap (λ (o : Outside). o.files) r) (ap (λ (o : Outside). o.out) r)) i;
  err = (ap (λ (o : Outside). o.err) w ∙ ap (λ (o : Outside). o.err) r) i;
  file = (ap (λ (o : Outside). o.file) w ∙ ap (λ (o : Outside). o.file) r) i;
  is_open = new.is_open;
  is_created = (ap (λ (o : Outside). o.is_created) w ∙ ap (λ (o : Outside). o.is_created) r) i;
  created = (ap (λ (o : Outside). o.created) w ∙ ap (λ (o : Outside). o.created) r) i;
  can_fail = (ap (λ (o : Outside). o.can_fail) w ∙ ap (λ (o : Outside). o.can_fail) r) i;
  found = new.found;
  taken = new.taken;
  read_faults = new.read_faults;
  write_faults = new.write_faults;
}
kept_put errors text old mid new r w = λ i. record {
  files = (ap (λ (o : Outside). o.files) w ∙ ap (λ (o : Outside). o.files) r) i;
  rest = new.rest;
  out = (ap (λ (o : Outside). o.out) w ∙ ap (λ (o : Outside). o.out) r) i;
  err = (ap (λ (o : Outside). o.err) w ∙ ap₂ (λ f o. more_told f o text) (ap (λ (o : Outside). o.files) r) (ap (λ (o : Outside). o.err) r)) i;
  file = (ap (λ (o : Outside). o.file) w ∙ ap (λ (o : Outside). o.file) r) i;
  is_open = new.is_open;
  is_created = (ap (λ (o : Outside). o.is_created) w ∙ ap (λ (o : Outside). o.is_created) r) i;
  created = (ap (λ (o : Outside). o.created) w ∙ ap (λ (o : Outside). o.created) r) i;
  can_fail = (ap (λ (o : Outside). o.can_fail) w ∙ ap (λ (o : Outside). o.can_fail) r) i;
  found = new.found;
  taken = new.taken;
  read_faults = new.read_faults;
  write_faults = new.write_faults;
}
kept_put (in_file name) text old mid new r w = λ i. record {
  files = (ap (λ (o : Outside). o.files) w ∙ ap (λ (o : Outside). option_map (λ files. map.insert files name text) o.files) r) i;
  rest = new.rest;
  out = (ap (λ (o : Outside). o.out) w ∙ ap (λ (o : Outside). o.out) r) i;
  err = (ap (λ (o : Outside). o.err) w ∙ ap (λ (o : Outside). o.err) r) i;
  file = (ap (λ (o : Outside). o.file) w ∙ ap₂ (λ f o. more_told f o text) (ap (λ (o : Outside). o.files) r) (ap (λ (o : Outside). o.file) r)) i;
  is_open = new.is_open;
  is_created = ap (λ (o : Outside). o.is_created) w i;
  created = (ap (λ (o : Outside). o.created) w ∙ ap (λ (o : Outside). option_map (λ _. name) o.files) r) i;
  can_fail = (ap (λ (o : Outside). o.can_fail) w ∙ ap (λ (o : Outside). o.can_fail) r) i;
  found = new.found;
  taken = new.taken;
  read_faults = new.read_faults;
  write_faults = new.write_faults;
}

-- no file was made, and a call that writes was refused
pub kept_refused : (old mid new : Outside) → IsReading old mid → new ≡ record mid { write_faults = new.write_faults } → Keeps old new
kept_refused old mid new r w = λ i. record {
  files = (ap (λ (o : Outside). o.files) w ∙ ap (λ (o : Outside). o.files) r) i;
  rest = new.rest;
  out = (ap (λ (o : Outside). o.out) w ∙ ap (λ (o : Outside). o.out) r) i;
  err = (ap (λ (o : Outside). o.err) w ∙ ap (λ (o : Outside). o.err) r) i;
  file = (ap (λ (o : Outside). o.file) w ∙ ap (λ (o : Outside). o.file) r) i;
  is_open = new.is_open;
  is_created = (ap (λ (o : Outside). o.is_created) w ∙ ap (λ (o : Outside). o.is_created) r) i;
  created = (ap (λ (o : Outside). o.created) w ∙ ap (λ (o : Outside). o.created) r) i;
  can_fail = (ap (λ (o : Outside). o.can_fail) w ∙ ap (λ (o : Outside). o.can_fail) r) i;
  found = new.found;
  taken = new.taken;
  read_faults = new.read_faults;
  write_faults = new.write_faults;
}

-- reading alone keeps all but what reading changes
pub kept_reading : (old new : Outside) → IsReading old new → Keeps old new
kept_reading old new r = λ i. record {
  files = (ap (λ (o : Outside). o.files) r) i;
  rest = new.rest;
  out = (ap (λ (o : Outside). o.out) r) i;
  err = (ap (λ (o : Outside). o.err) r) i;
  file = (ap (λ (o : Outside). o.file) r) i;
  is_open = new.is_open;
  is_created = (ap (λ (o : Outside). o.is_created) r) i;
  created = (ap (λ (o : Outside). o.created) r) i;
  can_fail = (ap (λ (o : Outside). o.can_fail) r) i;
  found = new.found;
  taken = new.taken;
  read_faults = new.read_faults;
  write_faults = new.write_faults;
}

more_nothing : (f : Option _) (had : List ℕ) → more_told f had [] ≡ had
more_nothing None had = refl
more_nothing (Some files) had = append-nil had

-- no text was written
pub kept_silent : (old new : Outside) → IsReading old new → Keeps (put errors [] old) new
kept_silent old new r = λ i. record {
  files = (ap (λ (o : Outside). o.files) r) i;
  rest = new.rest;
  out = (ap (λ (o : Outside). o.out) r) i;
  err = (ap (λ (o : Outside). o.err) r ∙ sym (more_nothing old.files old.err)) i;
  file = (ap (λ (o : Outside). o.file) r) i;
  is_open = new.is_open;
  is_created = (ap (λ (o : Outside). o.is_created) r) i;
  created = (ap (λ (o : Outside). o.created) r) i;
  can_fail = (ap (λ (o : Outside). o.can_fail) r) i;
  found = new.found;
  taken = new.taken;
  read_faults = new.read_faults;
  write_faults = new.write_faults;
}

-- reading before a note is as reading beside it
pub reading_noted : (note : Option Note) (old mid : Outside) → IsReading old mid → IsReading (noted note old) (noted note mid)
reading_noted None old mid r = r
reading_noted (Some note) old mid r = ap (put (in_file note.name) note.text) r
