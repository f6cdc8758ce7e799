-- What no public clause cites: what the walk and the copy keep true as they go.
pub mod Walking
pub mod Found
