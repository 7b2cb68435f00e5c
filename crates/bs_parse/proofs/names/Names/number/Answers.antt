use Rattle.std.proofs.Common.{sym, ◌∙◌}
use Rattle.std.proofs.lemmas.Map.Text.{btree_map_updates_str}
use Rattle.bs_parse.proofs.Taking.{new_name}
use Rattle.bs_parse.proofs.names.Names.number.Goals as goal

pub returns : goal.returns
returns c =
    new_name c.args.self.now (record { places = c.insert.new.self; known = c.push.new.self }) c.args.name.now c.from_vec.result c.in-Ok.place c.requires (sym c.place.ensures ∙ c.in_default.is)
    (c.from_vec.ensures ∙ c.in_ok-copy.ensures.items_if_clones_equal (λ x y e. e)) (c.in-Ok.ensures.1 ∙ cc) c.in_ok-push.ensures.ok
    (btree_map_updates_str c.args.name.now c.args.self.now.places c.insert.new.self _ c.in_ok-insert.ensures.updates)
