pub mod TableOctets
