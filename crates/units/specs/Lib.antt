-- Which block function a mode runs, and what becomes of one unit.
pub mod Inner
