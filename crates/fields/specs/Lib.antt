pub mod NamedFields
