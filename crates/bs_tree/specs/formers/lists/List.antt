-- How a `List` stores its items, so that a type may hold a list of its own values.
use mathlib.Core.Path.{◌≡◌, refl, sym}
use mathlib.Core.List.{List as Plain, []}
use mathlib.Core.Former.{Former, this, list, via, children}
use base.Stored.{code_map}
use denote.RattleType.{RattleType}
use denote.HoleLaws.{Alike}
use denote.HolePlaces.{Recodes, struct_places, laid}
use denote.Hole.Carrier.{listed, list-listed}
use denote.Hole.Fix.{over}
use denote.Param.Weighed.{Weighed, w_list}
use denote.Model.Placed.{view_places}
use Rattle.std.specs.formers.vec.Vec as vec
use Rattle.std.specs.declared.alloc.Global.{Global}
use Rattle.std.specs.contracts.alloc.Global as heap
use Rattle.std.specs.contracts.impls.GlobalAllocator.TheImpl.{ghosts}
use Rattle.bs_tree.specs.declared.lists.List.TheInside.{Inside}
use Rattle.bs_tree.specs.declared.lists.List.TheView.{view, invariant}
use Rattle.bs_tree.specs.contracts.lists.List as outer
use Rattle.bs_tree.specs.contracts.lists.List.TheInside as inner

-- a list of values is their plain list, and weighs what its heaviest value does
abbrev pub the_former : Former {0} → Former {0}
the_former value = list value

abbrev pub the_weighed : {value : Former {0}} → Weighed value → Weighed (the_former value)
the_weighed weight = w_list weight

pub the_empty : Plain ⊥
the_empty = []

abbrev pub the_items : (V : Type 0) → Plain V → Plain V
the_items V values = values

pub the_items_listed : (V : Type 0) (values : Plain V) → listed _ (children (the_former this) V values) ≡ the_items V values
the_items_listed V values = list-listed V values

-- the one field, a vector
abbrev stored : Former {0}
stored = via (vec.the_former this Global) Inside (λ V inside. inside.items) (λ V items. record { items = items }) (λ V inside. refl) (λ V items. refl)

module _ (From To : RattleType) (h : From.Denot → To.Denot) where
  pub the_places : Alike From To h → Alike (outer.the_row From) (outer.the_row To) ((the_former this).map From.Denot To.Denot h)
  the_places alike =
      let field = vec.the_places heap.the_row ghosts From To h alike in
      view_places stored (list this) view (λ V W k inside. refl) (λ V inside. refl) From.Denot To.Denot h (outer.the_row From).coded (outer.the_row To).coded
      (invariant From.Denot) (invariant To.Denot) (λ inside p q. refl) (λ inside p q. refl) (λ inside holds. tt) (λ inside holds. tt)
      (over (inner.the_row From)) (over (inner.the_row To))
      (struct_places (inner.the_type From) (inner.the_type To) (vec.mapped h, tt) _ (λ items. refl) refl (laid _ _ _ field, tt))

  pub the_codes_placed : Recodes From To h → Recodes (outer.the_row From) (outer.the_row To) ((the_former this).map From.Denot To.Denot h)
  the_codes_placed same values = sym (code_map From.coded.code To.coded.code h (λ value. sym (same value)) values)
