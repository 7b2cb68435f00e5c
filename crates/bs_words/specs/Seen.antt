-- What the test of a list remembers of the words so far.
use Rattle.std.specs.Prelude.{Bool, true, false, not, ◌&&◌, ◌||◌, List, [], ◌∷◌, Option, Some, None, is_some, if◌then◌else◌}
use Rattle.std.specs.Option.{option_map_or}
use Rattle.bs_words.specs.Plain.{Text, Read, setting_of, flag_of, is_dashed, is_empty}
use Rattle.bs_words.specs.declared.flag.Flag.{Flag}
use Rattle.bs_words.specs.declared.flag.Flag.TheVariants.{Spans}
use Rattle.bs_words.specs.declared.setting.Setting.{Setting}
use Rattle.bs_words.specs.declared.setting.Setting.TheVariants.{Limit, Workers, Waves, Journal}
use Rattle.bs_words.specs.declared.plain.Seen.{Seen}

abbrev pub seen_of : Read → Seen
seen_of r = record {
  command = is_some r.command;
  names = not (is_empty r.names);
  limit = is_some r.limit;
  workers = is_some r.workers;
  waves = is_some r.waves;
  journal = is_some r.journal;
  spans = r.spans;
  waits = r.waits;
  closed = r.closed;
}

abbrev pub has : Setting → Seen → Bool
has Limit s = s.limit
has Workers s = s.workers
has Waves s = s.waves
has Journal s = s.journal

abbrev pub with_seen : Setting → Seen → Seen
with_seen Limit s = record s { limit = true; waits = None }
with_seen Workers s = record s { workers = true; waits = None }
with_seen Waves s = record s { waves = true; waits = None }
with_seen Journal s = record s { journal = true; waits = None }

abbrev pub seen_option : Option Setting → Seen → Option Seen
seen_option None s = None
seen_option (Some o) s = if has o s then None else Some (record s { waits = Some o; closed = s.closed || s.names })

abbrev pub has_flag : Flag → Seen → Bool
has_flag Spans s = s.spans

abbrev pub with_seen_flag : Flag → Seen → Seen
with_seen_flag Spans s = record s { spans = true; closed = s.closed || s.names }

abbrev pub seen_flag : Flag → Seen → Option Seen
seen_flag f s = if has_flag f s then None else Some (with_seen_flag f s)

abbrev pub seen_dashed : Option Flag → Text → Seen → Option Seen
seen_dashed (Some f) w s = seen_flag f s
seen_dashed None w s = seen_option (setting_of w) s

abbrev pub seen_name : Seen → Option Seen
seen_name s = if s.command then (if s.closed then None else Some (record s { names = true })) else Some (record s { command = true })

abbrev pub seen_word : Option Setting → Text → Seen → Option Seen
seen_word (Some o) w s = if is_dashed w then None else Some (with_seen o s)
seen_word None w s = if is_dashed w then seen_dashed (flag_of w) w s else seen_name s

abbrev pub seen_step : Text → Seen → Option Seen
seen_step w s = if is_empty w then None else seen_word s.waits w s

abbrev pub seen_end : Seen → Bool
seen_end s = not (is_some s.waits) && s.command

abbrev pub seen_from : Seen → List Text → Bool
seen_from s [] = seen_end s
seen_from s (w ∷ ws) = option_map_or (λ next. seen_from next ws) (seen_step w s) false
