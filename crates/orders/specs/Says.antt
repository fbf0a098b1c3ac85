-- What a step may say of the order that its task is at.
use Rattle.std.specs.Prelude.{Bool, true, false, ltb, not, ◌&&◌}
use Rattle.client.specs.declared.Said.{Said}
use Rattle.client.specs.declared.Said.TheVariants as said
use Rattle.orders.specs.declared.model.Order.{Order}
use Rattle.orders.specs.declared.model.Order.TheVariants as order

-- a new and a set reserve a slot, and end in a handle
abbrev pub reserves : Order → Bool
reserves (order.New v) = true
reserves (order.Get h i) = false
reserves (order.Set h i v) = true
reserves (order.Page h i m) = false

-- a page goes on while it has more than one cell left
abbrev pub goes_on : Order → Bool
goes_on (order.New v) = false
goes_on (order.Get h i) = false
goes_on (order.Set h i v) = false
goes_on (order.Page h i m) = ltb 1 m

-- a cell is handed out by a page that goes on; a value ends a get, and a page at its last cell
abbrev pub may_say : Order → Said → Bool
may_say o said.Nothing = true
may_say o (said.Handed i v) = goes_on o
may_say o (said.Read s i v) = not (reserves o) && not (goes_on o)
may_say o (said.Made s h) = reserves o
