-- What serving the next item of a cell asks, and what it does.
use Rattle.std.specs.Prelude.{◌≡◌, List, All, Some, slice_get}
use Rattle.bs_floor.specs.declared.station.Bound.{Bound}
use Rattle.bs_floor.specs.declared.cell.Cell.{Cell}
use Rattle.bs_floor.specs.declared.station.Station as Station
use Rattle.bs_floor.specs.History.{with_served}

module _ {S J I : Type 0} (g : Station.Ghosts S J I) where
  pub record MayServe (c : Cell S J I) : Type 0 where
    pub sound : g.sound (g.job c.station) (g.place c.station) c.station
    pub fitting : All (g.fits (g.job c.station) (g.place c.station)) c.posted

  -- the first item that wasn't served is served
  pub record ServesNext (before after : Cell S J I) (sends : List (Bound I)) : Type 0 where
    pub item : I
    pub item_is : slice_get before.posted before.served ≡ Some item
    pub sends_are : sends ≡ g.sends before.station item
    pub now : after ≡ with_served g before item
