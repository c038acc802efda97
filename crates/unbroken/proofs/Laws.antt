-- The laws of the machine value: what a machine that is not broken has, the bounds that a rule needs, the fresh and the empty
-- machine, that a promise has one result, and which number is the lowest that applies. Assumes nothing.
pub mod Tests
pub mod Every
pub mod Says
pub mod Lowest
pub mod SlotTests
pub mod Applies
pub mod Whole
pub mod Counting
pub mod Room
pub mod Bits
pub mod Has
pub mod Fresh
pub mod Empty
pub mod Only
pub use Whole.{unbroken, whole}
pub use Room.{bounds}
pub use Fresh.{fresh_unbroken, empty_unbroken, fresh_blank, empty_blank}
pub use Only.{only}
