-- What a list under the key `values` ends as, where its vector or its elements are lent.
use Rattle.std.specs.Prelude.{List}
use Rattle.std.specs.Borrow.{Lends, follows, Fml, RattleType, MutBor, Array}
use Rattle.std.specs.Slice.Iter.{iter_mut_name}
use Rattle.std.specs.Vec.{with_items}
use Rattle.std.specs.declared.alloc.Global.{Global}
use Rattle.std.specs.declared.slice.IterMut.{IterMut}
use Rattle.std.specs.declared.vec.Vec.{Vec}
use Rattle.std.specs.contracts.impls.GlobalAllocator.TheImpl.{ghosts}
use Rattle.std.specs.contracts.alloc.Global as global
use Rattle.std.specs.contracts.vec.Vec as vector
use Rattle.sentry_writing.specs.declared.values.Values.{Values}
use Rattle.sentry_writing.specs.contracts.values.Values.{the_row}

module _ (T : RattleType) (v : MutBor (Values T.Denot)) where
  -- once the borrow r ends, the elements are those that r shows last
  abbrev pub lends_slice : MutBor (List T.Denot) → Fml
  lends_slice r = Lends (the_row T) (Array T 0) v r (λ items. record { values = with_items v.now.values items })

  -- the same where the elements went to an `iter_mut`
  abbrev pub lends_iter : IterMut T.Denot → Fml
  lends_iter it = follows (the_row T) (Array T 0) v.ghost_name (iter_mut_name it) (λ items. record { values = with_items v.now.values items })

  -- once the borrow r ends, the vector is what r shows last
  abbrev pub lends_vec : MutBor (Vec T.Denot Global) → Fml
  lends_vec r = Lends (the_row T) (vector.the_row T global.the_row ghosts) v r (λ values. record { values = values })
