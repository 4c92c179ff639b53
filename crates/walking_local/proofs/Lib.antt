pub mod LentWhole
