-- A quoted text as bytes, as the template has it. Assumes nothing.
pub use Rattle.template.specs.Text.{bytes}
