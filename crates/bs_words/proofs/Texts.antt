-- What was read, beside the texts of the list.
use Rattle.std.proofs.Common.{◌≡◌, sym, map, Some, option_map}
use Rattle.bs_words.specs.Plain.{Read}
use Rattle.bs_words.specs.Texts.{texts_in, texts_of}
use Rattle.bs_words.specs.declared.reading.Reading.{Reading}

pub record IsReading (r : Read) (x : Reading) : Type 0 where
  pub command : r.command ≡ Some x.command.now
  pub names : map (λ n. n.now) x.names.items ≡ r.names
  pub limit : option_map (λ n. n.now) x.limit ≡ r.limit
  pub workers : option_map (λ n. n.now) x.workers ≡ r.workers
  pub waves : option_map (λ n. n.now) x.waves ≡ r.waves
  pub journal : option_map (λ n. n.now) x.journal ≡ r.journal
  pub spans : x.spans ≡ r.spans

pub texts_from : (r : Read) (x : Reading) → IsReading r x → texts_in r ≡ Some (texts_of x)
texts_from r x h = λ i. option_map (λ c. record {
  command = c;
  names = (sym h.names) i;
  limit = (sym h.limit) i;
  workers = (sym h.workers) i;
  waves = (sym h.waves) i;
  journal = (sym h.journal) i;
  spans = (sym h.spans) i;
}) (h.command i)
