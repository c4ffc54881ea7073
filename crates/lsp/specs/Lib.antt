-- The definitions that the contracts cite, their worked values, and the laws on them.
pub mod Lsp
pub mod Cases
