use Rattle.std.proofs.Common.{ℕ, ◌≡◌, ◌++◌, ap, subst, sym, arith, string_bytes, rules}
use Rattle.std.specs.List.{All, flat_map}
use Rattle.std.proofs.lemmas.List.Elements.{All-tail}
use Rattle.bs_report.specs.declared.processors.Load.{Load}
use Rattle.bs_report.specs.Loads.{IsShare, load_line}
use Rattle.bs_report.proofs.LoadLemmas.{written_more}
use Rattle.bs_report.proofs.processors.write_loads.Goals as goal

pub write_load-requires : goal.write_load-requires
write_load-requires c =
    let entry : ℕ × Load = (c.in-Some.processor.now, c.in-Some.load.now) in
    subst (λ left. All (IsShare c.args.span) left) c.in-Some.ensures.steps c.loop-processor.invariant.shares 0 entry (omega arith)

pub loop-processor-preserved : goal.loop-processor-preserved
loop-processor-preserved c = record {
  written = written_more (load_line c.args.span) _ _ _ _ _ _ c.in-Some.ensures.steps c.in_ok-write_load.ensures c.loop-processor.invariant.written;
  shares = All-tail (IsShare c.args.span) _ _ (subst (λ left. All (IsShare c.args.span) left) c.in-Some.ensures.steps c.loop-processor.invariant.shares);
}

pub loop-processor-init : goal.loop-processor-init
loop-processor-init c =
    let whole : c.into_iter-processor-iterator.result ≡ c.args.loads.now.entries = search rules in
    record {
      written = ap (λ left. string_bytes c.args.text.now ++ flat_map (load_line c.args.span) left) whole;
      shares = subst (λ left. All (IsShare c.args.span) left) (sym whole) c.requires;
    }
