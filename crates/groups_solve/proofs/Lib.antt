-- Laws of the solve by groups: what is judged first, the groups one after the other, and what follows of the definitions alone.
pub mod Judgement
pub mod Rooms
pub mod Rounds
pub mod Benches
pub mod Entered
pub mod Independent
