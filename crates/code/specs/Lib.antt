-- The mathematics of the store, in reading order.
-- Bytes and sums, and tests that are computed.
pub mod Xor
pub mod Sum
pub mod SumLaws
pub mod Even
pub mod Test
pub mod Below
pub mod BelowLaws
pub mod CountLaws
-- Any code given by lines.
pub mod Code
pub mod CodeLaws
pub mod Alike
pub mod Linear
pub mod Plan
pub mod Peel
pub mod Run
pub mod Unused
-- The HoVer layout.
pub mod Place
pub mod Layout
pub mod LayoutLaws
pub mod Sound
pub mod SoundLaws
pub mod Change
pub mod AlongLaws
pub mod Encoded
pub mod Drawn
pub mod DrawnLaws
pub mod Live
pub mod LiveLaws
pub mod Stuck
pub mod Pair
-- Steps, and a walk that has stopped.
pub mod Steps
pub mod Walk
pub mod StepsLaws
pub mod Stopped
-- The shift family and its bound.
pub mod Circle
pub mod Shift
pub mod Bound
pub mod Periods
pub mod Positions
pub mod Divisor
pub mod Lookalikes
pub mod SoundTest
pub mod Rows
