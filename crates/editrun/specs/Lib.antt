-- What the program reads of an argument (Asked), which file its block holds (Held), and what it prints of it (Printed).
-- Stands on model, calls and list.
pub mod Asked
pub mod Held
pub mod Printed
